-- Addresses that are held by value.
use Rattle.std.specs.Prelude.{List, [], ℕ, Option, Some, None}
use Rattle.addresses.specs.Address.{address_bytes}
use Rattle.addresses.specs.declared.address.Address.{Address}

-- the bytes of an address that is held by value, none where there is none
abbrev pub held_address : Option Address → List ℕ
held_address None = []
held_address (Some a) = address_bytes a
