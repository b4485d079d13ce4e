-- A name on the wire is the labels of its text's parts, and a zero.
use mathlib.Core.Path.{◌≡◌, refl, ap, ◌∙◌, sym}
use mathlib.Core.Bool.{Bool, true, false, ◌&&◌, and-true, true≢false}
use mathlib.Core.Logic.{◌⊎◌, inl, inr, ⊎_elim}
use mathlib.Core.List.{List, [], ◌∷◌, ◌++◌, append-nil, append_assoc, map}
use Prim.Native.Nat.{ℕ, suc, ◌+◌, ◌≤◌}
use native.Mathlib.Omega.{arith}
use borrow.Author.Tests.{eq-eqb, ne_eqb, eqb-true, eqb-false, leb-false}
use lib.Dec.{leb, eqb}
use lib.ListN.{length, length-append}
use lib.Seq.{append_snoc}
use Rattle.rules.specs.Lists.{pick, Each, join_all, onto_first, split_on, same_bytes}
use Rattle.rules.specs.Names.{NameRead, named, misnamed, name_byte, label, longest_name, if_not_too_long, name_from, name_of, wire_in, wire_of}
use Rattle.rules.specs.declared.faults.NameFault.{NameFault}
use Rattle.names.specs.Views.{is_named}

-- where a test picks between a fault and a reading, a name is the reading
picked : (t : Bool) (x y : NameRead) → is_named x ≡ false → is_named (pick t x y) ≡ true → (t ≡ false) × (pick t x y ≡ y)
unfolding pick
picked true x y f n = absurd (true≢false (sym n ∙ f))
picked false x y f n = (refl, refl)

picked_first : (t : Bool) (x y : NameRead) → is_named y ≡ false → is_named (pick t x y) ≡ true → pick t x y ≡ x
unfolding pick
picked_first true x y f n = refl
picked_first false x y f n = absurd (true≢false (sym n ∙ f))

module _ (closed begun : List ℕ) (place b : ℕ) (bs : List ℕ) (n : is_named (name_from closed begun place (b ∷ bs)) ≡ true) where
  dot_step : b ≡ 46 → (eqb (length begun) 0 ≡ false) × (name_from closed begun place (b ∷ bs) ≡ name_from (closed ++ label begun) [] (suc place) bs)
  unfolding name_from pick
  dot_step q =
      let next = name_from (closed ++ label begun) [] (suc place) bs in
      let p : name_from closed begun place (b ∷ bs) ≡ pick (eqb (length begun) 0) (misnamed NameFault.EmptyLabel place) next = rw (eq-eqb b 46 q) in
      let w = picked (eqb (length begun) 0) (misnamed NameFault.EmptyLabel place) next refl (ap is_named (sym p) ∙ n) in
      (w.0, p ∙ w.1)

  plain_step : (b ≡ 46 → ⊥) → (leb 63 (length begun) ≡ false) × (name_from closed begun place (b ∷ bs) ≡ name_from closed (begun ++ (b ∷ [])) (suc place) bs)
  unfolding name_from pick
  plain_step q =
      let more = name_from closed (begun ++ (b ∷ [])) (suc place) bs in
      let fits = pick (leb 63 (length begun)) (misnamed NameFault.LabelTooLong place) more in
      let p : name_from closed begun place (b ∷ bs) ≡ pick (name_byte b) fits (misnamed NameFault.ByteNotAllowed place) = rw (ne_eqb b 46 q) in
      let u = picked_first (name_byte b) fits (misnamed NameFault.ByteNotAllowed place) refl (ap is_named (sym p) ∙ n) in
      let w = picked (leb 63 (length begun)) (misnamed NameFault.LabelTooLong place) more refl (ap is_named (sym (p ∙ u)) ∙ n) in
      (w.0, p ∙ u ∙ w.1)

end_step : (wire : List ℕ) → is_named (if_not_too_long wire) ≡ true → if_not_too_long wire ≡ named wire
unfolding if_not_too_long
end_step wire n = picked_first (leb (length wire) longest_name) (named wire) (misnamed NameFault.NameTooLong 0) refl n

label_is : (begun : List ℕ) → eqb (length begun) 0 ≡ false → label begun ≡ length begun ∷ begun
unfolding label
label_is [] e = absurd (eqb-false 0 0 e refl)
label_is (b ∷ bs) e = refl

same_or_not : (t : Bool) (a b : ℕ) → eqb a b ≡ t → (a ≡ b) ⊎ (a ≡ b → ⊥)
same_or_not true a b e = inl (eqb-true a b e)
same_or_not false a b e = inr (eqb-false a b e)

-- ---- the parts of a text

-- bytes in front of the first part
abbrev pub front_of : List ℕ → List (List ℕ) → List (List ℕ)
front_of begun [] = begun ∷ []
front_of begun (p ∷ ps) = (begun ++ p) ∷ ps

front_more : (begun : List ℕ) (b : ℕ) (ps : List (List ℕ)) → front_of (begun ++ b ∷ []) ps ≡ front_of begun (onto_first b ps)
unfolding onto_first
front_more begun b [] = refl
front_more begun b (p ∷ ps) = rw (append_snoc begun b p)

front_none : (bs : List ℕ) → front_of [] (split_on 46 bs) ≡ split_on 46 bs
unfolding split_on pick onto_first
front_none [] = refl
front_none (b ∷ bs) = by (eqb b 46) (split_on 46 bs)
  where
    by : (t : Bool) (ps : List (List ℕ)) → front_of [] (pick t ([] ∷ ps) (onto_first b ps)) ≡ pick t ([] ∷ ps) (onto_first b ps)
    by true ps = refl
    by false [] = refl
    by false (p ∷ ps) = refl

abbrev pub Labels : List (List ℕ) → List ℕ
Labels parts = join_all (map label parts)

labels_wire : (bs closed begun : List ℕ) (place : ℕ) → is_named (name_from closed begun place bs) ≡ true
    → wire_in (name_from closed begun place bs) ≡ closed ++ Labels (front_of begun (split_on 46 bs)) ++ 0 ∷ []
unfolding wire_in split_on join_all pick
labels_wire [] closed begun place n =
    let p : name_from closed begun place [] ≡ if_not_too_long (closed ++ label begun ++ (0 ∷ [])) = unfold name_from in refl in
    rw (p, end_step (closed ++ label begun ++ (0 ∷ [])) (ap is_named (sym p) ∙ n), append-nil begun, append-nil (label begun))
labels_wire (b ∷ bs) closed begun place n =
    ⊎_elim
    (λ q.
    let w = dot_step closed begun place b bs n q in
    let h = labels_wire bs (closed ++ label begun) [] (suc place) (ap is_named (sym w.1) ∙ n) in
    rw (w.1, h, front_none bs, eq-eqb b 46 q, append-nil begun, append_assoc closed (label begun) (Labels (split_on 46 bs))))
    (λ q.
    let w = plain_step closed begun place b bs n q in
    rw (w.1, labels_wire bs closed (begun ++ (b ∷ [])) (suc place) (ap is_named (sym w.1) ∙ n), ne_eqb b 46 q, front_more begun b (split_on 46 bs)))
    (same_or_not (eqb b 46) b 46 refl)

-- ---- a name's parts

no_second : (q : Bool) → (q && false) ≡ true → ⊥
no_second true e = true≢false (sym e)
no_second false e = true≢false (sym e)

dot_is : (t : List ℕ) → same_bytes t (46 ∷ []) ≡ true → t ≡ 46 ∷ []
unfolding same_bytes
dot_is [] e = absurd (true≢false (sym e))
dot_is (b ∷ []) e = rw (eqb-true b 46 (sym (and-true (eqb b 46)) ∙ e))
dot_is (b ∷ c ∷ t) e = absurd (no_second (eqb b 46) e)

-- a dot alone has two empty parts
by_dot : (P : List ℕ → Type 0) → P (46 ∷ []) → (s : List ℕ) → (same_bytes s (46 ∷ []) ≡ false → P s) → P s
by_dot P d s h = go (same_bytes s (46 ∷ [])) refl
  where
    go : (q : Bool) → same_bytes s (46 ∷ []) ≡ q → P s
    go true e = rw (dot_is s e) d
    go false e = h e

name_read : (s : List ℕ) → same_bytes s (46 ∷ []) ≡ false → name_of s ≡ name_from [] [] 0 s
unfolding name_of pick
name_read s e = rw e

pub parts_wire : (s : List ℕ) → is_named (name_of s) ≡ true → wire_of s ≡ Labels (split_on 46 s) ++ 0 ∷ []
parts_wire s = by_dot (λ s. is_named (name_of s) ≡ true → wire_of s ≡ Labels (split_on 46 s) ++ 0 ∷ []) (λ n. unfold wire_of name_of wire_in pick same_bytes split_on join_all label in refl) s
    (λ e n. unfold wire_of in rw (name_read s e) (labels_wire s [] [] 0 (ap is_named (sym (name_read s e)) ∙ n) ∙ rw (front_none s)))

few_from : (bs closed begun : List ℕ) (place : ℕ) → is_named (name_from closed begun place bs) ≡ true → length begun ≤ 63 → Each (λ p. length p ≤ 63) (front_of begun (split_on 46 bs))
unfolding split_on pick
few_from [] closed begun place n h = (rw (append-nil begun) h, tt)
few_from (b ∷ bs) closed begun place n h =
    ⊎_elim
    (λ q.
    let w = dot_step closed begun place b bs n q in
    let k = few_from bs (closed ++ label begun) [] (suc place) (ap is_named (sym w.1) ∙ n) (omega arith) in
    rw (eq-eqb b 46 q, append-nil begun) (h, rw (front_none bs) at k))
    (λ q.
    let w = plain_step closed begun place b bs n q in
    let l : length (begun ++ b ∷ []) ≤ 63 = rw (length-append begun (b ∷ [])) (omega (arith, leb-false 63 (length begun) w.0)) in
    rw (ne_eqb b 46 q) (rw (front_more begun b (split_on 46 bs)) at (few_from bs closed (begun ++ b ∷ []) (suc place) (ap is_named (sym w.1) ∙ n) l)))
    (same_or_not (eqb b 46) b 46 refl)

pub parts_few : (s : List ℕ) → is_named (name_of s) ≡ true → Each (λ p. length p ≤ 63) (split_on 46 s)
parts_few s = by_dot (λ s. is_named (name_of s) ≡ true → Each (λ p. length p ≤ 63) (split_on 46 s)) (λ n. unfold split_on pick in (omega arith, (omega arith, tt))) s
    (λ e n. rw (front_none s) at (few_from s [] [] 0 (ap is_named (sym (name_read s e)) ∙ n) (omega arith)))

-- ---- its length

label_long : (begun : List ℕ) → length begun ≤ length (label begun)
unfolding label
label_long [] = omega arith
label_long (b ∷ bs) = omega arith

long_from : (bs closed begun : List ℕ) (place : ℕ) → is_named (name_from closed begun place bs) ≡ true
    → length closed + length begun + length bs + 1 ≤ length (wire_in (name_from closed begun place bs))
unfolding wire_in
long_from [] closed begun place n =
    let p : name_from closed begun place [] ≡ if_not_too_long (closed ++ label begun ++ (0 ∷ [])) = unfold name_from in refl in
    rw (p, end_step (closed ++ label begun ++ (0 ∷ [])) (ap is_named (sym p) ∙ n))
    (simp length-append (omega (arith, label_long begun)))
long_from (b ∷ bs) closed begun place n =
    ⊎_elim
    (λ q.
    let w = dot_step closed begun place b bs n q in
    let l : length (closed ++ label begun) ≡ length closed + suc (length begun) = length-append closed (label begun) ∙ rw (label_is begun w.0) in
    rw w.1 (omega (arith, long_from bs (closed ++ label begun) [] (suc place) (ap is_named (sym w.1) ∙ n))))
    (λ q.
    let w = plain_step closed begun place b bs n q in
    let l : length (begun ++ (b ∷ [])) ≡ length begun + 1 = length-append begun (b ∷ []) in
    rw w.1 (omega (arith, long_from bs closed (begun ++ (b ∷ [])) (suc place) (ap is_named (sym w.1) ∙ n))))
    (same_or_not (eqb b 46) b 46 refl)

-- a name other than the root is longer on the wire than its text
pub wire_longer : (s : List ℕ) → same_bytes s (46 ∷ []) ≡ false → is_named (name_of s) ≡ true → length s + 1 ≤ length (wire_of s)
unfolding wire_of
wire_longer s e n =
    let l = long_from s [] [] 0 (ap is_named (sym (name_read s e)) ∙ n) in
    rw (name_read s e) (omega arith)
