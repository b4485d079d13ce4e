-- The ancestors of a name, label by label.
use mathlib.Core.Path.{◌≡◌, refl, ◌∙◌, sym}
use mathlib.Core.Bool.{Bool, true, false, ◌||◌, or-false}
use mathlib.Core.List.{List, [], ◌∷◌}
use Prim.Native.Nat.{ℕ, zero, suc, ◌-◌, ◌<◌, ◌≤◌}
use native.Mathlib.Omega.{arith}
use lib.ListN.{length, drop}
use lib.Dec.{T, eqb}
use borrow.Author.Tests.{eqb-true, eqb-false}
use Rattle.rules.specs.Lists.{same_bytes}
use Rattle.rules.specs.Questions.{ancestors_from, ancestors}
use Rattle.rules.proofs.Lists.{other_length_lem}
use Rattle.related.specs.Related.{among, has_length}

label_passed : (k : ℕ) (n : List ℕ) → k < length n
    → ancestors_from (suc k) n ≡ drop (suc k) n ∷ ancestors_from 0 (drop (suc k) n)
unfolding ancestors_from
label_passed k [] h = absurd (omega arith)
label_passed zero (b ∷ n) h = refl
label_passed (suc k) (b ∷ n) h = label_passed k n (omega arith)

label_beyond : (k : ℕ) (n : List ℕ) → length n ≤ k → ancestors_from (suc k) n ≡ []
unfolding ancestors_from
label_beyond k [] h = refl
label_beyond zero (b ∷ n) h = absurd (omega arith)
label_beyond (suc k) (b ∷ n) h = label_beyond k n (omega arith)

module _ (b : ℕ) (n : List ℕ) (z : b ≡ 0 → ⊥) where
  pub next_ancestor : b ≤ length n → ancestors (b ∷ n) ≡ drop b n ∷ ancestors (drop b n)
  unfolding ancestors ancestors_from
  next_ancestor h = go b z h
    where
      go : (b : ℕ) → (b ≡ 0 → ⊥) → b ≤ length n → ancestors_from 0 (b ∷ n) ≡ drop b n ∷ ancestors_from 0 (drop b n)
      go zero z h = absurd (z refl)
      go (suc k) z h = label_passed k n (omega arith)

  pub no_ancestor : length n < b → ancestors (b ∷ n) ≡ []
  unfolding ancestors ancestors_from
  no_ancestor h = go b h
    where
      go : (b : ℕ) → length n < b → ancestors_from 0 (b ∷ n) ≡ []
      go zero h = absurd (omega arith)
      go (suc k) h = label_beyond k n (omega arith)

-- each is shorter than the name
pub shorter : (k : ℕ) (n key : List ℕ) → length n ≤ length key → among key (ancestors_from k n) ≡ false
unfolding among ancestors_from
shorter zero [] key h = refl
shorter zero (zero ∷ n) key h = refl
shorter zero (suc k ∷ n) key h = shorter (suc k) n key (omega arith)
shorter (suc k) [] key h = refl
shorter (suc zero) (b ∷ n) key h = rw (← (other_length_lem key n (λ e. omega arith))) (shorter zero n key (omega arith))
shorter (suc (suc k)) (b ∷ n) key h = shorter (suc k) n key (omega arith)

-- ---- each is told by its length

-- a key of another length is none of these names
pub no_length : (key : List ℕ) (names : List (List ℕ)) → has_length (length key) names ≡ false → among key names ≡ false
unfolding among has_length
no_length key [] e = refl
no_length key (a ∷ names) e = by (eqb (length a) (length key)) refl e (no_length key names)
  where
    by : (b : Bool) → eqb (length a) (length key) ≡ b → (b || has_length (length key) names) ≡ false
        → (has_length (length key) names ≡ false → among key names ≡ false) → (same_bytes key a || among key names) ≡ false
    by true q e ih = let z : ◌≡◌ {A = ℕ} 0 1 = cc in absurd (omega arith)
    by false q e ih = rw (← (other_length_lem key a (λ l. eqb-false _ _ q (sym l)))) (ih e)

has_below : (k : ℕ) (n : List ℕ) (m : ℕ) → T (has_length m (ancestors_from k n)) → m < length n
unfolding has_length ancestors_from
has_below zero [] m t = absurd t
has_below zero (zero ∷ n) m t = absurd t
has_below zero (suc k ∷ n) m t = let h = has_below (suc k) n m t in omega arith
has_below (suc k) [] m t = absurd t
has_below (suc zero) (b ∷ n) m t = by (eqb (length n) m) refl t (has_below zero n m)
  where
    by : (c : Bool) → eqb (length n) m ≡ c → T (c || has_length m (ancestors_from zero n))
        → (T (has_length m (ancestors_from zero n)) → m < length n) → m < suc (length n)
    by true q t ih = omega (arith, eqb-true (length n) m q)
    by false q t ih = omega (arith, ih t)
has_below (suc (suc k)) (b ∷ n) m t = let h = has_below (suc k) n m t in omega arith

-- the end of a name with one byte more in front
pub same_end : (b : ℕ) (n key : List ℕ) → length key ≤ length n
    → same_bytes key (drop (length n - length key) n) ≡ same_bytes key (drop (suc (length n) - length key) (b ∷ n))
same_end b n key h =
    let q : suc (length n) - length key ≡ suc (length n - length key) = omega arith in
    rw q

-- of a length that one of them has, a key is one of them exactly if it is the end of the name
pub by_length : (k : ℕ) (n key : List ℕ) → T (has_length (length key) (ancestors_from k n))
    → among key (ancestors_from k n) ≡ same_bytes key (drop (length n - length key) n)
unfolding among has_length ancestors_from
by_length zero [] key t = absurd t
by_length zero (zero ∷ n) key t = absurd t
by_length zero (suc k ∷ n) key t =
    let h : length key < length n = has_below (suc k) n (length key) t in
    by_length (suc k) n key t ∙ same_end (suc k) n key (omega arith)
by_length (suc k) [] key t = absurd t
by_length (suc zero) (b ∷ n) key t = by (eqb (length n) (length key)) refl t (by_length zero n key) (has_below zero n (length key))
  where
    by : (c : Bool) → eqb (length n) (length key) ≡ c → T (c || has_length (length key) (ancestors_from zero n))
        → (T (has_length (length key) (ancestors_from zero n))
        → among key (ancestors_from zero n) ≡ same_bytes key (drop (length n - length key) n))
        → (T (has_length (length key) (ancestors_from zero n)) → length key < length n)
        → (same_bytes key n || among key (ancestors_from zero n)) ≡ same_bytes key (drop (suc (length n) - length key) (b ∷ n))
    by true q t ih below =
        let l : length n ≡ length key = eqb-true (length n) (length key) q in
        let z : length n - length key ≡ 0 = omega arith in
        rw (shorter zero n key (omega arith), or-false) (sym (sym (same_end b n key (omega arith)) ∙ rw z))
    by false q t ih below =
        let h : length key < length n = below t in
        rw (← (other_length_lem key n (λ l. eqb-false (length n) (length key) q (sym l)))) (ih t ∙ same_end b n key (omega arith))
by_length (suc (suc k)) (b ∷ n) key t =
    let h : length key < length n = has_below (suc k) n (length key) t in
    by_length (suc k) n key t ∙ same_end b n key (omega arith)
