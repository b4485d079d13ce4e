-- The laws of a byte looked for.
use Rattle.std.proofs.Common.{◌≡◌, refl, ap, ℕ, ◌+◌, ◌≤◌, List, [], ◌∷◌, suc, length, drop, length-drop, eqb, arith, Bool, true, false, ◌||◌}
use Rattle.std.specs.List.{list_any}
use Rattle.rules.specs.Lists.{has, pick}
use borrow.Author.Tests.{eq-eqb, ne_eqb}
use Rattle.pieces.specs.Pieces.{first_at, IsEnd}

pub any_has : (b : ℕ) (xs : List ℕ) → list_any (λ x. eqb x b) xs ≡ has b xs
unfolding has
any_has b [] = refl
any_has b (x ∷ xs) = ap (λ u. eqb x b || u) (any_has b xs)

pub within : (b : ℕ) (xs : List ℕ) → first_at b xs ≤ length xs
unfolding first_at pick
within b [] = omega arith
within b (x ∷ xs) = by (eqb x b) (within b xs)
  where
    by : (u : Bool) → first_at b xs ≤ length xs → pick u 0 (suc (first_at b xs)) ≤ suc (length xs)
    by true h = omega arith
    by false h = omega arith

-- the place of a byte looked for behind start is the end of the piece there
pub is_end : (b : ℕ) (s : List ℕ) (start n : ℕ) → start ≤ length s → n ≡ first_at b (drop start s) → IsEnd b s start (start + n)
is_end b s start n h e = record { says = rw e refl; above = omega arith; within = omega (arith, within b (drop start s), length-drop start s, e) }

pub first_hit : (b x : ℕ) (xs : List ℕ) → x ≡ b → first_at b (x ∷ xs) ≡ 0
unfolding first_at pick
first_hit b x xs e = rw (eq-eqb x b e) refl

pub first_miss : (b x : ℕ) (xs : List ℕ) → (x ≡ b → ⊥) → first_at b (x ∷ xs) ≡ first_at b xs + 1
unfolding first_at pick
first_miss b x xs e = rw (ne_eqb x b e) (omega arith)

pub first_none : (b : ℕ) → first_at b [] ≡ 0
unfolding first_at
first_none b = refl
