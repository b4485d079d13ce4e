-- The bytes of an address, and how many they are.
use Rattle.std.specs.Prelude.{List, ℕ}
use Rattle.addresses.specs.declared.address.Address.{Address}

abbrev pub address_bytes : Address → List ℕ
address_bytes (Address.V4 bytes) = bytes
address_bytes (Address.V6 bytes) = bytes

abbrev pub address_size : Address → ℕ
address_size (Address.V4 bytes) = 4
address_size (Address.V6 bytes) = 16
