-- A field x that gives a name.
use Rattle.std.specs.Prelude.{◌≡◌, true, false, List, ℕ, ◌≤◌, length}
use Rattle.rules.specs.Lists.{has}
use Rattle.rules.specs.Names.{name_of}
use Rattle.rules.specs.Records.{host_name}
use Rattle.names.specs.Views.{is_named}

-- a field x without a fault, whose name isn't too long
pub record HostGood (owner x middle : List ℕ) : Type 0 where
  pub named : is_named (name_of x) ≡ true
  pub label : has 46 x ≡ false → length x ≤ 63
  pub small : length middle ≤ 63
  pub short : length (host_name middle owner x) ≤ 255
