-- The laws of an address that is held by value.
use mathlib.Core.Path.{◌≡◌}
use mathlib.Core.List.{List}
use Prim.Native.Nat.{ℕ}
use Rattle.std.specs.Prelude.{Option, Some, None, option_map}
use Rattle.rules.specs.Lists.{value_or}
use Rattle.rules.specs.Fields.{address_of}
use Rattle.rules.specs.Records.{address_in}
use Rattle.addresses.specs.Address.{address_bytes}
use Rattle.addresses.specs.declared.address.Address.{Address}
use Rattle.addresses.specs.HeldAddress.{held_address}

-- what is held is what the field says
pub held_is : (t : List ℕ) (a : Option Address) → option_map address_bytes a ≡ address_of t → held_address a ≡ address_in t
unfolding address_in value_or
held_is t None e = rw (← e)
held_is t (Some a) e = rw (← e)
