-- How the data of an SRV record are laid out, and their size.
use mathlib.Core.Path.{◌≡◌, refl}
use mathlib.Core.List.{List, ◌++◌}
use Prim.Native.Nat.{ℕ, ◌+◌}
use native.Mathlib.Omega.{arith}
use lib.ListN.{length, length-append}
use Rattle.rules.specs.declared.quantities.Port.{Port}
use Rattle.rules.specs.declared.quantities.Priority.{Priority}
use Rattle.rules.specs.declared.quantities.Weight.{Weight}
use Rattle.rules.specs.Lists.{be}
use Rattle.rules.specs.Records.{srv_data}
use Rattle.wire.proofs.Numbers.{length_be}

pub srv_is : (priority : Priority) (weight : Weight) (port : Port) (host : List ℕ)
    → be 2 priority.0 ++ be 2 weight.0 ++ be 2 port.0 ++ host ≡ srv_data priority weight port host
unfolding srv_data
srv_is priority weight port host = refl

pub srv_length : (priority : Priority) (weight : Weight) (port : Port) (host : List ℕ) → 6 + length host ≡ length (srv_data priority weight port host)
unfolding srv_data
srv_length priority weight port host = simp (length-append, length_be) (omega arith)
