-- The lines that say a host's address, as they are read.
use Rattle.std.specs.Prelude.{◌≡◌, List, [], ◌∷◌, ◌++◌, ℕ}
use Rattle.rules.specs.Kinds.{field_at}
use Rattle.rules.specs.Names.{wire_of}
use Rattle.rules.specs.Records.{Record, shared_of, resource_of, reverse_name, address_records, address_in}
use Rattle.rules.specs.declared.kinds.Kind.{Kind}
use Rattle.addresses.specs.Address.{address_bytes}
use Rattle.aliases.specs.declared.aliases.AddressLine.{AddressLine}

pub record IsAddressLine (kind : Kind) (fields : List (List ℕ)) (l : AddressLine) : Type 0 where
  pub shared : l.shared ≡ shared_of kind fields
  pub owner : l.owner ≡ wire_of (field_at fields 0)
  pub address : address_bytes l.address ≡ address_in (field_at fields 1)

abbrev pub alias_records : AddressLine → List Record
alias_records l = address_records l.shared l.owner (address_bytes l.address)

abbrev pub pointer_record : AddressLine → Record
pointer_record l = resource_of l.shared (reverse_name (address_bytes l.address)) 12 l.owner

abbrev pub back_records : AddressLine → List Record
back_records l = alias_records l ++ (pointer_record l ∷ [])
