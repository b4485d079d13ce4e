-- What a comparison says, and how many byte pairs it reads.
use mathlib.Core.Path.{◌≡◌, refl, ap, ◌∙◌, sym}
use Prim.Native.Nat.{ℕ, suc, ◌<◌}
use native.Mathlib.Omega.{arith}
use mathlib.Core.Bool.{Bool, true, false, ◌&&◌}
use mathlib.Core.List.{List, [], ◌∷◌}
use lib.ListN.{length, get_or, take}
use lib.Seq.{get_or-take}
use lib.Dec.{eqb}
use borrow.Author.Tests.{eqb-true, eqb-false}
use Rattle.rules.specs.declared.comparisons.Compared.{Compared}
use Rattle.rules.specs.Lists.{pick, lower, same_bytes}
use Rattle.rules.specs.Comparing.{up_to, pairs_read, verdict, compared, ComparingStops, ComparisonsAgree}
use Rattle.rules.specs.Comparing.{Comparison, other_length, equal, first_difference}
use Rattle.rules.specs.ComparingExamples.{wxb, xb, ab, b, wwwb, table, ComparingExamples}
use Rattle.rules.proofs.Lists.{other_length_lem}

-- one pair more in front, which agrees
further : (x y : ℕ) (key name : List ℕ) (c : Compared) → x ≡ y → length key ≡ length name → Comparison key name c
    → Comparison (x ∷ key) (y ∷ name) (verdict c.same (suc c.pairs))
unfolding verdict
further x y key name _ e l (other_length h) = absurd (h l)
further x y key name _ e l (equal q) = equal (rw (e, q))
further x y key name _ e l (first_difference k m h t d) = first_difference (suc k) (ap suc m) (omega arith) (rw (e, t)) d

from_front : (key name : List ℕ) → length key ≡ length name
    → Comparison key name (verdict (same_bytes key name) (up_to key name))
unfolding same_bytes up_to verdict
from_front [] [] l = equal refl
from_front [] (y ∷ name) l = absurd (omega arith)
from_front (x ∷ key) [] l = absurd (omega arith)
from_front (x ∷ key) (y ∷ name) l = by (eqb x y) refl (from_front key name (omega arith))
  where
    by : (b : Bool) → eqb x y ≡ b → Comparison key name (verdict (same_bytes key name) (up_to key name))
        → Comparison (x ∷ key) (y ∷ name) (verdict (eqb x y && same_bytes key name) (pick (eqb x y) (suc (up_to key name)) 1))
    by true e ih = unfold pick in rw e (further x y key name _ (eqb-true x y e) (omega arith) ih)
    by false e ih = unfold pick in rw e (first_difference 0 l (omega arith) refl (eqb-false x y e))

pub comparing_stops : ComparingStops
unfolding ComparingStops compared pairs_read pick
comparing_stops key name = by (eqb (length key) (length name)) refl
  where
    by : (b : Bool) → eqb (length key) (length name) ≡ b
        → Comparison key name (verdict (same_bytes key name) (pick (eqb (length key) (length name)) (up_to key name) 0))
    by true e = rw e (from_front key name (eqb-true _ _ e))
    by false e = rw (e, ← (other_length_lem key name (eqb-false _ _ e))) (other_length (eqb-false _ _ e))

-- ---- no two results fit

sooner : (key name : List ℕ) (j k : ℕ) → j < k → take k key ≡ take k name → get_or key j 0 ≡ get_or name j 0
sooner key name j k h t = sym (get_or-take k key j 0 h) ∙ ap (λ (l : List ℕ). get_or l j 0) t ∙ get_or-take k name j 0 h

module _ (key name : List ℕ) where
  differ_not : (k : ℕ) → key ≡ name → (get_or key k 0 ≡ get_or name k 0 → ⊥) → ⊥
  differ_not k e d = d (ap (λ (l : List ℕ). get_or l k 0) e)

  same_place : (j k : ℕ) → take j key ≡ take j name → (get_or key j 0 ≡ get_or name j 0 → ⊥)
      → take k key ≡ take k name → (get_or key k 0 ≡ get_or name k 0 → ⊥) → j ≡ k
  same_place j k t d u e = by (eqb j k) refl
    where
      by : (b : Bool) → eqb j k ≡ b → j ≡ k
      by true q = eqb-true j k q
      by false q =
          let n : j ≡ k → ⊥ = eqb-false j k q in
          let before : j < k → ⊥ = λ h. d (sooner key name j k h u) in
          let behind : k < j → ⊥ = λ h. e (sooner key name k j h t) in
          omega arith

pub comparisons_agree : ComparisonsAgree
unfolding ComparisonsAgree
comparisons_agree key name _ _ (other_length h) (other_length g) = refl
comparisons_agree key name _ _ (other_length h) (equal e) = absurd (h (ap length e))
comparisons_agree key name _ _ (other_length h) (first_difference k l b t d) = absurd (h l)
comparisons_agree key name _ _ (equal e) (other_length h) = absurd (h (ap length e))
comparisons_agree key name _ _ (equal e) (equal f) = refl
comparisons_agree key name _ _ (equal e) (first_difference k l b t d) = absurd (differ_not key name k e d)
comparisons_agree key name _ _ (first_difference k l b t d) (other_length h) = absurd (h l)
comparisons_agree key name _ _ (first_difference k l b t d) (equal e) = absurd (differ_not key name k e d)
comparisons_agree key name _ _ (first_difference j l b t d) (first_difference k m c u e) =
    ap (λ (n : ℕ). verdict false (suc n)) (same_place key name j k t d u e)

pub comparing_examples_hold : ComparingExamples
unfolding ComparingExamples compared pairs_read up_to verdict same_bytes pick lower table wxb xb ab b wwwb
comparing_examples_hold = refl
