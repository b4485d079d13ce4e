-- The laws of an address record.
use mathlib.Core.Path.{◌≡◌, refl}
use mathlib.Core.List.{List, [], ◌∷◌, append-nil}
use Rattle.std.specs.Prelude.{Option, None}
use Prim.Native.Nat.{ℕ, ◌+◌, ◌<◌, ◌≤◌}
use native.Mathlib.Omega.{arith}
use borrow.Author.Tests.{eq-eqb, ne_eqb}
use lib.Dec.{eqb}
use lib.ListN.{length}
use Rattle.rules.specs.Lists.{pick, join_all}
use Rattle.rules.specs.Records.{resource_of, address_type, address_records}
use Rattle.rules.specs.Bytes.{encode, bytes_of}
use Rattle.rules.specs.declared.quantities.Shared.{Shared}
use Rattle.buffer.specs.Put.{IsPut}
use Rattle.heads.specs.Head.{head_size}
use Rattle.records.proofs.Sequence.{record_room}
use Rattle.addresses.specs.declared.address.Address.{Address}
use Rattle.addresses.specs.HeldAddress.{held_address}

module _ (shared : Shared) (owner : List ℕ) where
  pub no_bytes : (bytes d : List ℕ) → length bytes ≡ 0 → IsPut (bytes_of (address_records shared owner bytes)) d d 0
  unfolding bytes_of join_all address_records
  no_bytes [] d e = record { count = refl; room = omega arith; holds = refl }
  no_bytes (b ∷ l) d e = absurd (omega arith)

  pub no_address : (a : Option Address) (d : List ℕ) → a ≡ None → IsPut (bytes_of (address_records shared owner (held_address a))) d d 0
  no_address a d e = rw e (no_bytes [] d refl)

  -- an address of so many bytes has one record, of this type
  module _ (type : ℕ) (bytes : List ℕ) (long : 0 < length bytes) (t : pick (eqb (length bytes) 4) 1 28 ≡ type) where
    one_address : encode (resource_of shared owner type bytes) ≡ bytes_of (address_records shared owner bytes)
    one_address = rw (← t) (by bytes long)
      where
        by : (l : List ℕ) → 0 < length l → encode (resource_of shared owner (pick (eqb (length l) 4) 1 28) l) ≡ bytes_of (address_records shared owner l)
        by [] e = absurd (omega arith)
        by (b ∷ l) e = unfold bytes_of join_all address_records address_type in rw append-nil

    pub address_put : (d f : List ℕ) (r : ℕ) → IsPut (encode (resource_of shared owner type bytes)) d f r → IsPut (bytes_of (address_records shared owner bytes)) d f r
    address_put d f r p = rw (← one_address) p

    pub address_room : (n : ℕ) → length (bytes_of (address_records shared owner bytes)) ≤ n → head_size shared owner + length bytes ≤ n
    address_room n h = record_room shared owner type bytes _ n one_address h

pub four : (b : List ℕ) → length b ≡ 4 → ◌≡◌ {A = ℕ} (pick (eqb (length b) 4) 1 28) 1
unfolding pick
four b e = rw (eq-eqb (length b) 4 e)

pub other : (b : List ℕ) → (length b ≡ 4 → ⊥) → ◌≡◌ {A = ℕ} (pick (eqb (length b) 4) 1 28) 28
unfolding pick
other b e = rw (ne_eqb (length b) 4 e)
