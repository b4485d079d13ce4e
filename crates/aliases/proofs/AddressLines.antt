-- The laws of lines that say a host's address.
use mathlib.Core.Path.{◌≡◌, refl, ap, ◌∙◌, sym}
use mathlib.Core.Bool.{true, true≢false}
use mathlib.Core.List.{List, [], ◌∷◌, ◌++◌, append_assoc}
use Prim.Native.Nat.{ℕ, ◌+◌, ◌≤◌}
use Rattle.std.specs.Prelude.{Option, Some, None, option_map, IsSome}
use native.Mathlib.Omega.{arith}
use borrow.Author.Rules.{rules}
use lib.ListN.{length, length-append}
use Rattle.rules.specs.Lists.{is_some, join_all}
use Rattle.rules.specs.Kinds.{common, meanings, field_count, field_at}
use Rattle.rules.specs.Names.{wire_of}
use Rattle.rules.specs.Fields.{address_of, fault_of}
use Rattle.rules.specs.Records.{Record, shared_of, resource_of, reverse_name, address_records, address_in, records_of}
use Rattle.rules.specs.Bytes.{encode, bytes_of}
use Rattle.rules.specs.declared.faults.FieldKind.{FieldKind}
use Rattle.rules.specs.declared.kinds.Kind.{Kind}
use Rattle.rules.specs.declared.quantities.Shared.{Shared}
use Rattle.buffer.specs.Put.{IsPut}
use Rattle.wire.proofs.Parts.{lent_at, back_at}
use Rattle.buffer.proofs.Puts.{behind_length, within, then}
use Rattle.heads.specs.Head.{head_size}
use Rattle.addresses.specs.Address.{address_bytes, address_size}
use Rattle.addresses.specs.declared.address.Address.{Address}
use Rattle.addresses.specs.HeldAddress.{held_address}
use Rattle.addresses.proofs.HoldingAddress.{held_is}
use Rattle.values.specs.Ready.{Ready}
use Rattle.values.proofs.Readiness.{done, needed_some}
use Rattle.aliases.specs.Alone.{IsAddressLine, alias_records, pointer_record, back_records}
use Rattle.aliases.specs.declared.aliases.AddressLine.{AddressLine}
use Rattle.records.proofs.Sequence.{only, first_fits, room_of, put_of}

pub alias_fields : 3 ≤ field_count Kind.Alias
unfolding field_count meanings common
alias_fields = omega arith

pub host_fields : 3 ≤ field_count Kind.Host
unfolding field_count meanings common
host_fields = omega arith

module _ (fields : List (List ℕ)) where
  pub alias_address : Ready Kind.Alias fields → is_some (address_of (field_at fields 1)) ≡ true
  unfolding meanings common fault_of
  alias_address r = needed_some FieldKind.Address _ _ (done fields Kind.Alias r).1.0

  pub host_address : Ready Kind.Host fields → is_some (address_of (field_at fields 1)) ≡ true
  unfolding meanings common fault_of
  host_address r = needed_some FieldKind.Address _ _ (done fields Kind.Host r).1.0

-- an address that was read
module _ (t : List ℕ) where
  pub there : (a : Option Address) → option_map address_bytes a ≡ address_of t → is_some (address_of t) ≡ true → IsSome a
  unfolding is_some
  there None e h = absurd (true≢false (sym h ∙ rw (← e)))
  there (Some a) e h = refl

  pub address_is : (a : Option Address) (b : Address) → option_map address_bytes a ≡ address_of t → a ≡ Some b → address_bytes b ≡ address_in t
  address_is a b e q = ap held_address (sym q) ∙ held_is t a e

same_read : (kind : Kind) (fields : List (List ℕ)) (l : AddressLine) → IsAddressLine kind fields l → (f : Shared → List ℕ → List ℕ → List Record)
    → f l.shared l.owner (address_bytes l.address) ≡ f (shared_of kind fields) (wire_of (field_at fields 0)) (address_in (field_at fields 1))
same_read kind fields l p f = rw (p.shared, p.owner, p.address)

pub alias_is : (fields : List (List ℕ)) (l : AddressLine) → IsAddressLine Kind.Alias fields l → alias_records l ≡ records_of 0 Kind.Alias fields
unfolding records_of
alias_is fields l p = same_read Kind.Alias fields l p (λ shared owner address. address_records shared owner address)

pub host_is : (fields : List (List ℕ)) (l : AddressLine) → IsAddressLine Kind.Host fields l → back_records l ≡ records_of 0 Kind.Host fields
unfolding records_of
host_is fields l p = same_read Kind.Host fields l p (λ shared owner address. address_records shared owner address ++ (resource_of shared (reverse_name address) 12 owner ∷ []))

pub ruleset alias_line_laws = (rules, room_of, put_of, alias_is)

-- ---- the PTR

-- of names that are lent
module _ (l : AddressLine) (owner reverse : List ℕ) (o : owner ≡ l.owner) (c : reverse ≡ reverse_name (address_bytes l.address)) where
  back_is : resource_of l.shared reverse 12 owner ≡ pointer_record l
  back_is = rw (o, c)

  pub back_room : (n : ℕ) → length (bytes_of (pointer_record l ∷ [])) ≤ n → head_size l.shared reverse + length owner ≤ n
  back_room n h = first_fits l.shared reverse 12 [] n owner (rw back_is h)

  pub back_put : (d e : List ℕ) (r : ℕ) → IsPut (encode (resource_of l.shared reverse 12 owner)) d e r → IsPut (bytes_of (pointer_record l ∷ [])) d e r
  back_put d e r q = only (pointer_record l) d e r (rw back_is at q)

pub address_few : (a : Address) → address_size a ≤ 16
address_few (Address.V4 b) = omega arith
address_few (Address.V6 b) = omega arith

-- ---- both

bytes_append : (rs ss : List Record) → bytes_of (rs ++ ss) ≡ bytes_of rs ++ bytes_of ss
unfolding bytes_of join_all
bytes_append [] ss = refl
bytes_append (r ∷ rs) ss = ap (λ (b : List ℕ). encode r ++ b) (bytes_append rs ss) ∙ sym (append_assoc (encode r) (bytes_of rs) (bytes_of ss))

pub alias_room : (fields : List (List ℕ)) (l : AddressLine) (n : ℕ) → IsAddressLine Kind.Host fields l → length (bytes_of (records_of 0 Kind.Host fields)) ≤ n → length (bytes_of (alias_records l)) ≤ n
alias_room fields l n p h =
    omega (
      arith,
      room_of (back_records l) (records_of 0 Kind.Host fields) (host_is fields l p) n h,
      ap length (bytes_append (alias_records l) (pointer_record l ∷ [])),
      length-append (bytes_of (alias_records l)) (bytes_of (pointer_record l ∷ [])),
    )

module _ (rs ss : List Record) (d : List ℕ) (room : length (bytes_of (rs ++ ss)) ≤ length d) where
  module _ (e : List ℕ) (a : ℕ) (p : IsPut (bytes_of rs) d e a) where
    pub back_starts : a ≤ length e
    back_starts = within (bytes_of rs) d e a p

    pub back_fits : length (bytes_of ss) ≤ length (lent_at a e)
    back_fits = omega (arith, behind_length (bytes_of rs) d e a p, p.count, ap length (bytes_append rs ss), length-append (bytes_of rs) (bytes_of ss))

    pub both_put : (f : List ℕ) (k : ℕ) → IsPut (bytes_of ss) (lent_at a e) f k → IsPut (bytes_of (rs ++ ss)) d (back_at a e f) (a + k)
    both_put f k q = rw (bytes_append rs ss) (then (bytes_of rs) d e a p (bytes_of ss) f k q)

pub ruleset host_line_laws = (rules, room_of, put_of, host_is, alias_room, back_starts, back_fits, both_put)
