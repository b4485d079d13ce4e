-- A name judged by counts is the name that the rules read; and how a turn of the loop takes one byte, and each way out ends it.
use mathlib.Core.Path.{◌≡◌, refl, ap, ◌∙◌}
use mathlib.Core.Bool.{Bool, true, false}
use mathlib.Core.List.{List, [], ◌∷◌, ◌++◌}
use Prim.Native.Nat.{ℕ, suc, ◌+◌, ◌<◌, ◌≤◌}
use native.Mathlib.Nat.{add-zero}
use native.Mathlib.Numerals.{add-one}
use native.Mathlib.Omega.{arith}
use borrow.Author.Rules.{rules}
use Rattle.std.specs.Prelude.{Result, Ok, Err}
use borrow.Author.Tests.{le-leb, lt-leb, eq-eqb, ne_eqb, eqb-false}
use lib.Dec.{leb, eqb}
use lib.Pointwise.{pointwise}
use Rattle.std.proofs.Common.{nat_eq}
use lib.ListN.{length, get_or, drop, length-append, drop_of_length-le}
use Rattle.rules.specs.Lists.{pick, same_bytes}
use Rattle.rules.specs.Names.{NameRead, named, misnamed, name_byte, label, longest_name, if_not_too_long, name_from, name_of}
use Rattle.rules.specs.declared.faults.NameFault.{NameFault}
use Rattle.wire.proofs.Steps.{left_at}
use Rattle.judged_names.specs.Views.{judged_of}
use Rattle.judged_names.specs.NameCounts.{byte_kind, by_kind, label_room, judged_size, judged_from}
use Rattle.judged_names.specs.declared.judged.ByteKind.{ByteKind}
use Rattle.judged_names.specs.declared.judged.Misnamed.{Misnamed}

pub label_length : (begun : List ℕ) → length (label begun) ≡ label_room (length begun)
unfolding label label_room pick
label_length [] = refl
label_length (b ∷ bs) = rw (ne_eqb (suc (length bs)) 0 (λ e. omega arith), add-one)

ended : (wire : List ℕ) (size : ℕ) → length wire ≡ size → judged_of (if_not_too_long wire) ≡ judged_size size
unfolding if_not_too_long judged_size pick
ended wire size e = rw e (by_test (leb size longest_name))
  where
    by_test : (t : Bool) → judged_of (pick t (named wire) (misnamed NameFault.NameTooLong 0)) ≡ pick t (Ok size) (Err (record { fault = NameFault.NameTooLong; place = 0 }))
    by_test true = ap Ok e
    by_test false = refl

-- both readings pick by the same four tests
stepped : (dot empty plain long : Bool) (x y z next more : NameRead) (next' more' : Result ℕ Misnamed) → (empty ≡ false → judged_of next ≡ next') → judged_of more ≡ more'
    → judged_of (pick dot (pick empty x next) (pick plain (pick long y more) z))
    ≡ by_kind (pick dot ByteKind.Dot (pick plain ByteKind.Plain ByteKind.Other)) (pick empty (judged_of x) next') (pick long (judged_of y) more') (judged_of z)
unfolding pick by_kind
stepped true true plain long x y z next more next' more' n m = refl
stepped true false plain long x y z next more next' more' n m = n refl
stepped false empty true true x y z next more next' more' n m = refl
stepped false empty true false x y z next more next' more' n m = m
stepped false empty false long x y z next more next' more' n m = refl

closed_length : (closed begun : List ℕ) → eqb (length begun) 0 ≡ false → length (closed ++ label begun) ≡ length closed + length begun + 1
unfolding label
closed_length closed [] e = absurd (eqb-false 0 0 e refl)
closed_length closed (b ∷ bs) e = length-append closed (length (b ∷ bs) ∷ b ∷ bs) ∙ omega arith

pub counted : (bs closed begun : List ℕ) (place : ℕ) → judged_of (name_from closed begun place bs) ≡ judged_from (length closed) (length begun) place bs
unfolding name_from judged_from byte_kind
counted [] closed begun place =
    ended (closed ++ label begun ++ (0 ∷ [])) (length closed + label_room (length begun) + 1)
    (simp (length-append, label_length))
counted (b ∷ bs) closed begun place =
    stepped (eqb b 46) (eqb (length begun) 0) (name_byte b) (leb 63 (length begun)) _ _ _ _ _ _ _
    (λ e. counted bs (closed ++ label begun) [] (suc place) ∙ rw (closed_length closed begun e, add-one place))
    (counted bs closed (begun ++ (b ∷ [])) (suc place) ∙ rw (add-one place, length-append begun (b ∷ [])))

-- what the loop's invariant says of the rest
abbrev pub Going : List ℕ → ℕ → ℕ → ℕ → Type 0
Going s closed begun i = judged_of (name_of s) ≡ judged_from closed begun i (drop i s)

-- the empty text is not told apart: it has no label
pub begin : (s : List ℕ) (r : Bool) → r ≡ same_bytes s (46 ∷ []) → r ≡ false → Going s 0 0 0
unfolding name_of pick
begin s r p q = rw (← p, q) (counted s [] [] 0)

pub root : (s : List ℕ) (r : Bool) → r ≡ same_bytes s (46 ∷ []) → r ≡ true → Ok 1 ≡ judged_of (name_of s)
unfolding name_of pick
root s r p q = rw (← p, q)

module _ (s : List ℕ) (closed begun i : ℕ) (e : Going s closed begun i) where
  module _ (k : ByteKind) (p : k ≡ byte_kind (get_or s i 0)) where
    pub empty_label : k ≡ ByteKind.Dot → i < length s → begun ≡ 0 → Err (record { fault = NameFault.EmptyLabel; place = i }) ≡ judged_of (name_of s)
    unfolding judged_from by_kind pick
    empty_label q l z = rw (e, left_at s i l, ← p, q, eq-eqb begun 0 z)

    pub after_dot : (closed' begun' : ℕ) → k ≡ ByteKind.Dot → i < length s → (begun ≡ 0 → ⊥) → closed' ≡ closed + (begun + 1) → begun' ≡ 0 → Going s closed' begun' (i + 1)
    unfolding judged_from by_kind pick
    after_dot closed' begun' q l z c b =
        let w : closed' ≡ closed + begun + 1 = omega (arith, c) in
        e ∙ rw (left_at s i l, ← p, q, ne_eqb begun 0 z, w, b)

    pub long_label : k ≡ ByteKind.Plain → i < length s → 63 ≤ begun → Err (record { fault = NameFault.LabelTooLong; place = i }) ≡ judged_of (name_of s)
    unfolding judged_from by_kind pick
    long_label q l z = rw (e, left_at s i l, ← p, q, le-leb 63 begun z)

    pub after_plain : (closed' begun' : ℕ) → k ≡ ByteKind.Plain → i < length s → begun < 63 → closed' ≡ closed → begun' ≡ begun + 1 → Going s closed' begun' (i + 1)
    unfolding judged_from by_kind pick
    after_plain closed' begun' q l z c b = e ∙ rw (left_at s i l, ← p, q, lt-leb 63 begun z, c, b)

    pub bad_byte : k ≡ ByteKind.Other → i < length s → Err (record { fault = NameFault.ByteNotAllowed; place = i }) ≡ judged_of (name_of s)
    unfolding judged_from by_kind
    bad_byte q l = rw (e, left_at s i l, ← p, q)

  pub at_dot : (r : Result ℕ Misnamed) → length s ≤ i → begun ≡ 0 → r ≡ judged_size (closed + 1) → r ≡ judged_of (name_of s)
  unfolding judged_from label_room pick
  at_dot r l z q = rw (q, e, drop_of_length-le s l, eq-eqb begun 0 z, add-zero closed)

  pub at_label : (r : Result ℕ Misnamed) → length s ≤ i → (begun ≡ 0 → ⊥) → r ≡ judged_size (closed + begun + 2) → r ≡ judged_of (name_of s)
  unfolding judged_from label_room pick
  at_label r l z q =
      let w : closed + begun + 2 ≡ closed + (begun + 1) + 1 = omega arith in
      rw (q, w, e, drop_of_length-le s l, ne_eqb begun 0 z)

-- the test of a byte text is the rules' own
pub same : (s t : List ℕ) → pointwise nat_eq s t ≡ same_bytes s t
unfolding same_bytes
same [] [] = refl
same [] (c ∷ t) = refl
same (b ∷ s) [] = refl
same (b ∷ s) (c ∷ t) = rw (same s t)

pub dot_alone : (s t : List ℕ) (r : Bool) → r ≡ pointwise nat_eq s t → t ≡ 46 ∷ [] → r ≡ same_bytes s (46 ∷ [])
dot_alone s t r p q = p ∙ same s t ∙ rw q

pub ruleset name_laws = (rules, dot_alone, begin, root, empty_label, after_dot, long_label, after_plain, bad_byte, at_dot, at_label)
