-- Laws of names: what reads as a name is one on the wire.
use mathlib.Core.Path.{◌≡◌, refl}
use Prim.Native.Nat.{ℕ, suc, ◌+◌, ◌≤◌}
use native.Mathlib.Omega.{arith}
use mathlib.Core.Bool.{not}
use mathlib.Core.List.{List, [], ◌∷◌, ◌++◌, append_assoc}
use lib.ListN.{length, length-append}
use lib.Dec.{T, leb, eqb, nleb→lt}
use mir.Facts.{yes_and, yes_leb, or_no, T_not}
use Rattle.rules.specs.Lists.{has}
use Rattle.rules.specs.Names.{NameRead, named, misnamed, label, longest_name, if_not_too_long, name_from, name_of, labels, is_wire}
use Rattle.rules.proofs.Tests.{pick_ok, tests, passes}
use Rattle.rules.proofs.Lists.{same_length}

-- a name on the wire
abbrev pub Wire : List ℕ → Type 0
Wire n = T (is_wire n)

pub wire_of_lem : (n : List ℕ) → length n ≤ 255 → T (labels 0 n) → Wire n
unfolding is_wire longest_name
wire_of_lem n h t = search passes

pub labels_of : (n : List ℕ) → Wire n → T (labels 0 n)
unfolding is_wire
labels_of n t = search tests

pub short_of : (n : List ℕ) → Wire n → length n ≤ 255
unfolding is_wire longest_name
short_of n t = search tests

pub labels_skip : (l n : List ℕ) → labels (length l) (l ++ n) ≡ labels 0 n
unfolding labels
labels_skip [] n = refl
labels_skip (b ∷ l) n = labels_skip l n

-- what may stand before a name: labels
abbrev pub Before : List ℕ → Type 0
Before l = (n : List ℕ) → T (labels 0 n) → T (labels 0 (l ++ n))

pub before_label : (l : List ℕ) → length l ≤ 63 → Before (label l)
unfolding label labels
before_label [] h n t = t
before_label (b ∷ l) h n t = yes_and (leb (suc (length l)) 63) _ (yes_leb h) (rw (labels_skip l n) t)

pub before_append : (l m : List ℕ) → Before l → Before m → Before (l ++ m)
before_append l m f g n t = rw (append_assoc l m n) (f (m ++ n) (g n t))

-- a name that was read has P
abbrev pub OnName : (List ℕ → Type 0) → NameRead → Type 0
OnName P (named wire) = P wire
OnName P (misnamed fault place) = Unit {0}

name_from_lem : (text closed begun : List ℕ) (place : ℕ) → Before closed → length begun ≤ 63 → OnName Wire (name_from closed begun place text)
unfolding name_from if_not_too_long longest_name labels
name_from_lem [] closed begun place c b =
    pick_ok (OnName Wire) _
    (λ t. let short : length (closed ++ label begun ++ (0 ∷ [])) ≤ 255 = search tests in
    wire_of_lem _ short (before_append closed (label begun) c (before_label begun b) (0 ∷ []) tt))
    (λ t. tt)
name_from_lem (x ∷ text) closed begun place c b =
    pick_ok (OnName Wire) _
    (λ t. pick_ok (OnName Wire) _ (λ u. tt) (λ u. name_from_lem text (closed ++ label begun) [] (suc place) (before_append closed (label begun) c (before_label begun b)) (omega arith)))
    (λ t. pick_ok (OnName Wire) _
    (λ u. pick_ok (OnName Wire) _ (λ v. tt)
    (λ v. name_from_lem text closed (begun ++ (x ∷ [])) (suc place) c (simp length-append (omega (arith, nleb→lt 63 (length begun) v)))))
    (λ u. tt))

pub name_ok : (text : List ℕ) → OnName Wire (name_of text)
unfolding name_of longest_name is_wire labels
name_ok text = pick_ok (OnName Wire) _ (λ t. tt) (λ t. name_from_lem text [] [] 0 (λ n u. u) (omega arith))

-- a text without a dot that reads as a name is at most one label: m is the length of the label that it goes on with
label_from : (m : ℕ) (text closed begun : List ℕ) (place : ℕ) → T (not (has 46 text)) → length begun ≤ 63 → length begun + length text ≡ m → OnName (λ w. m ≤ 63) (name_from closed begun place text)
unfolding name_from if_not_too_long has
label_from m [] closed begun place d b e = pick_ok (OnName (λ w. m ≤ 63)) _ (λ t. omega arith) (λ t. tt)
label_from m (x ∷ text) closed begun place d b e =
    pick_ok (OnName (λ w. m ≤ 63)) _
    (λ t. absurd (T_not (eqb x 46) t (or_no (eqb x 46) (has 46 text) d).0))
    (λ t. pick_ok (OnName (λ w. m ≤ 63)) _
    (λ u. pick_ok (OnName (λ w. m ≤ 63)) _ (λ v. tt)
    (λ v. label_from m text closed (begun ++ (x ∷ [])) (suc place) (or_no (eqb x 46) (has 46 text) d).1 (simp length-append (omega (arith, nleb→lt 63 (length begun) v))) (simp length-append (omega arith))))
    (λ u. tt))

pub label_ok : (text : List ℕ) → T (not (has 46 text)) → OnName (λ w. length text ≤ 63) (name_of text)
unfolding name_of
label_ok text d =
    pick_ok (OnName (λ w. length text ≤ 63)) _
    (λ t. omega (arith, same_length text (46 ∷ []) t))
    (λ t. label_from (length text) text [] [] 0 d (omega arith) (omega arith))
