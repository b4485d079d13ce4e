-- The laws of a location line.
use mathlib.Core.Path.{◌≡◌, refl, ap, ◌∙◌, sym}
use mathlib.Core.Bool.{true, true≢false}
use mathlib.Core.List.{List, []}
use Rattle.std.specs.Prelude.{Option, Some, None, IsSome}
use Prim.Native.Nat.{ℕ, ◌+◌, ◌≤◌}
use native.Mathlib.Omega.{arith}
use lib.ListN.{length}
use Rattle.rules.specs.Lists.{is_some, value_or}
use Rattle.rules.specs.Kinds.{meanings, field_at}
use Rattle.rules.specs.Fields.{prefix_of, lo_of, fault_of}
use Rattle.rules.specs.Records.{location, lo_bytes, records_of}
use Rattle.rules.specs.Bytes.{bytes_of, encode}
use Rattle.rules.specs.declared.faults.FieldKind.{FieldKind}
use Rattle.rules.specs.declared.kinds.Kind.{Kind}
use Rattle.rules.specs.declared.quantities.Lo.{Lo}
use Rattle.buffer.specs.Put.{IsPut}
use Rattle.heads.proofs.Whole.{encode_length, location_size}
use Rattle.values.specs.Ready.{Ready}
use Rattle.values.proofs.Readiness.{done, some_done}
use Rattle.records.proofs.Sequence.{one}

some_there : (r o : Option (List ℕ)) → r ≡ o → is_some o ≡ true → IsSome r
unfolding is_some
some_there None o e h = absurd (true≢false (sym h ∙ rw (← e)))
some_there (Some x) o e h = refl

-- a prefix without a fault is there
pub prefix_there : (fields : List (List ℕ)) (t : List ℕ) (r : Option (List ℕ)) → Ready Kind.Location fields → t ≡ field_at fields 1 → r ≡ prefix_of t → IsSome r
unfolding meanings fault_of
prefix_there fields t r ready e p =
    some_there r (prefix_of (field_at fields 1)) (p ∙ ap prefix_of e) (some_done FieldKind.Address _ (done fields Kind.Location ready).1.0)

module _ (fields : List (List ℕ)) (t prefix text : List ℕ) (lo : Lo) (r : Option (List ℕ))
    (a : lo ≡ value_or Lo.Every (lo_of (field_at fields 0))) (e : t ≡ field_at fields 1) (p : r ≡ prefix_of t) (q : r ≡ Some prefix) (s : text ≡ prefix) where
  prefix_is : text ≡ value_or [] (prefix_of (field_at fields 1))
  unfolding value_or
  prefix_is = rw (s, ← e, ← p, q)

  location_line : encode (location text (lo_bytes lo)) ≡ bytes_of (records_of 0 Kind.Location fields)
  unfolding records_of
  location_line = rw (a, prefix_is) (sym (one _))

  pub location_room : (n : ℕ) → length (bytes_of (records_of 0 Kind.Location fields)) ≤ n → 10 + length text + length (lo_bytes lo) ≤ n
  location_room n k = omega (arith, ap length location_line, encode_length (location text (lo_bytes lo)), location_size text lo)

  pub location_put : (d f : List ℕ) (r : ℕ) → IsPut (encode (location text (lo_bytes lo))) d f r → IsPut (bytes_of (records_of 0 Kind.Location fields)) d f r
  location_put d f r q = rw (← location_line) q
