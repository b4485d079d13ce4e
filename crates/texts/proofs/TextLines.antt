-- The laws of a text line and of a line of any type.
use mathlib.Core.Path.{◌≡◌, ap, ◌∙◌, sym}
use mathlib.Core.Bool.{true}
use mathlib.Core.List.{List, []}
use Prim.Native.Nat.{ℕ, ◌+◌, ◌≤◌}
use native.Mathlib.Omega.{arith}
use lib.ListN.{length, take}
use Rattle.rules.specs.Lists.{is_some, value_or}
use Rattle.rules.specs.Kinds.{common, meanings, field_count, field_at}
use Rattle.rules.specs.Names.{wire_of}
use Rattle.rules.specs.Fields.{text_of, fault_of}
use Rattle.rules.specs.Records.{chunks, records_of, resource_of, shared_of, short_at}
use Rattle.rules.specs.Bytes.{bytes_of, encode}
use Rattle.rules.specs.declared.faults.FieldKind.{FieldKind}
use Rattle.rules.specs.declared.kinds.Kind.{Kind}
use Rattle.rules.specs.declared.quantities.Shared.{Shared}
use Rattle.rules.proofs.Fields.{text_short}
use Rattle.buffer.specs.Put.{IsPut}
use Rattle.buffer.proofs.Puts.{filled}
use Rattle.heads.specs.Head.{head_size}
use Rattle.values.specs.Ready.{Ready}
use Rattle.values.proofs.Readiness.{done, some_done}
use Rattle.records.proofs.Sequence.{record_room, one}

-- ---- a text that is held

module _ (x t : List ℕ) (e : t ≡ x) where
  pub text_good : is_some (text_of x) ≡ true → is_some (text_of t) ≡ true
  text_good h = rw e h

  pub text_fits : (n : ℕ) → length x ≤ 1024 → 1024 ≤ n → length (value_or [] (text_of t)) ≤ n
  text_fits n h m = omega (arith, text_short t, ap length e)

  pub text_held : (d f held : List ℕ) (r : ℕ) → IsPut (value_or [] (text_of t)) d f r → held ≡ take r f → held ≡ value_or [] (text_of x)
  text_held d f held r p h = filled _ d f held r p h ∙ ap (λ (l : List ℕ). value_or [] (text_of l)) e

pub text_few : (w d x : List ℕ) (r : ℕ) → IsPut w d x r → length d ≡ 1024 → r ≤ 1024
text_few w d x r p h = omega (arith, p.count, p.room)

-- ---- a line that is ready

module _ (fields : List (List ℕ)) where
  pub text_ready : Ready Kind.Text fields → is_some (text_of (field_at fields 1)) ≡ true
  unfolding meanings common fault_of
  text_ready r = some_done FieldKind.Escape _ (done fields Kind.Text r).1.0

  pub generic_ready : Ready Kind.Generic fields → is_some (text_of (field_at fields 2)) ≡ true
  unfolding meanings common fault_of
  generic_ready r = some_done FieldKind.Escape _ (done fields Kind.Generic r).1.1.0

pub text_fields : 3 ≤ field_count Kind.Text
unfolding field_count meanings common
text_fields = omega arith

pub generic_fields : 3 ≤ field_count Kind.Generic
unfolding field_count meanings common
generic_fields = omega arith

module _ (fields : List (List ℕ)) (shared : Shared) (owner text : List ℕ) (b : owner ≡ wire_of (field_at fields 0)) where
  module _ (a : shared ≡ shared_of Kind.Text fields) (t : text ≡ value_or [] (text_of (field_at fields 1))) where
    text_is : encode (resource_of shared owner 16 (chunks text)) ≡ bytes_of (records_of 0 Kind.Text fields)
    unfolding records_of
    text_is = rw (a, b, t) (sym (one _))

    pub text_room : (n : ℕ) → length (bytes_of (records_of 0 Kind.Text fields)) ≤ n → head_size shared owner + length (chunks text) ≤ n
    text_room n h = record_room shared _ 16 _ _ n text_is h

    pub text_put : (d e : List ℕ) (r : ℕ) → IsPut (encode (resource_of shared owner 16 (chunks text))) d e r → IsPut (bytes_of (records_of 0 Kind.Text fields)) d e r
    text_put d e r p = rw (← text_is) p

  module _ (type : ℕ) (a : shared ≡ shared_of Kind.Generic fields) (n : type ≡ short_at fields 1) (t : text ≡ value_or [] (text_of (field_at fields 2))) where
    generic_is : encode (resource_of shared owner type text) ≡ bytes_of (records_of 0 Kind.Generic fields)
    unfolding records_of
    generic_is = rw (a, b, n, t) (sym (one _))

    pub generic_room : (m : ℕ) → length (bytes_of (records_of 0 Kind.Generic fields)) ≤ m → head_size shared owner + length text ≤ m
    generic_room m h = record_room shared _ type _ _ m generic_is h

    pub generic_put : (d e : List ℕ) (r : ℕ) → IsPut (encode (resource_of shared owner type text)) d e r → IsPut (bytes_of (records_of 0 Kind.Generic fields)) d e r
    generic_put d e r p = rw (← generic_is) p
