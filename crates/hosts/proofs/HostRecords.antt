-- The records of a line with a field x, by what was read of it.
use mathlib.Core.Path.{◌≡◌}
use mathlib.Core.List.{List, ◌∷◌}
use Prim.Native.Nat.{ℕ, ◌+◌, ◌≤◌}
use lib.ListN.{length}
use Rattle.rules.specs.Kinds.{field_at}
use Rattle.rules.specs.Names.{wire_of}
use Rattle.rules.specs.Records.{Record, shared_of, resource_of, host_name, address_records, address_in}
use Rattle.rules.specs.Bytes.{encode, bytes_of}
use Rattle.rules.specs.declared.kinds.Kind.{Kind}
use Rattle.rules.specs.declared.quantities.Shared.{Shared}
use Rattle.addresses.specs.HeldAddress.{held_address}
use Rattle.buffer.specs.Put.{IsPut}
use Rattle.wire.proofs.Parts.{lent_at, back_at}
use Rattle.heads.specs.Head.{head_size}
use Rattle.records.proofs.Sequence.{first_fits, rest_fits, rest_put}
use Rattle.hosts.specs.HostLines.{middle_of, IsHostLine}
use Rattle.hosts.specs.declared.hosts.HostLine.{HostLine}

-- whatever is made of what was read is made of what the fields say
pub same_read : (kind : Kind) (fields : List (List ℕ)) (h : HostLine) → IsHostLine kind fields h → (f : Shared → List ℕ → List ℕ → List ℕ → List Record)
    → f h.shared h.owner h.host (held_address h.address)
    ≡ f (shared_of kind fields) (wire_of (field_at fields 0)) (host_name (middle_of kind) (wire_of (field_at fields 0)) (field_at fields 2)) (address_in (field_at fields 1))
same_read kind fields h p f = rw (p.shared, p.owner, p.host, p.address)

-- a record of the owner whose data name the host, and the host's address behind it, written of names that are lent
module _ (h : HostLine) (owner host : List ℕ) (o : owner ≡ h.owner) (n : host ≡ h.host) (type : ℕ) (rdata : List ℕ → List ℕ) where
  abbrev both : List Record
  both = resource_of h.shared h.owner type (rdata h.host) ∷ address_records h.shared h.host (held_address h.address)

  lent_is : resource_of h.shared owner type (rdata host) ∷ address_records h.shared host (held_address h.address) ≡ both
  lent_is = rw (o, n)

  pub first_room : (m : ℕ) → length (bytes_of both) ≤ m → head_size h.shared owner + length (rdata host) ≤ m
  first_room m k = first_fits h.shared owner type (address_records h.shared host (held_address h.address)) m (rdata host) (rw lent_is k)

  module _ (d e : List ℕ) (a : ℕ) (room : length (bytes_of both) ≤ length d) (p : IsPut (encode (resource_of h.shared owner type (rdata host))) d e a) where
    pub second_room : length (bytes_of (address_records h.shared host (held_address h.address))) ≤ length (lent_at a e)
    second_room = rest_fits (resource_of h.shared owner type (rdata host)) (address_records h.shared host (held_address h.address)) d e a (rw lent_is room) p

    pub both_put : (f : List ℕ) (k : ℕ) → IsPut (bytes_of (address_records h.shared host (held_address h.address))) (lent_at a e) f k → IsPut (bytes_of both) d (back_at a e f) (a + k)
    both_put f k q = rw (← lent_is) (rest_put (resource_of h.shared owner type (rdata host)) (address_records h.shared host (held_address h.address)) d e a (rw lent_is room) p f k q)
