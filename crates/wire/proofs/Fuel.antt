-- A recursion over bytes with a count of its turns: any count that is large enough will do.
use mathlib.Core.Path.{◌≡◌, ap, ◌∙◌, sym}
use mathlib.Core.List.{List, [], ◌∷◌}
use Prim.Native.Nat.{ℕ, zero, suc, ◌≤◌}
use native.Mathlib.Omega.{arith}
use lib.ListN.{length}

module _ {A : Type 0} (of : ℕ → List ℕ → A) (turn : List ℕ → A → A) (rest : List ℕ → List ℕ)
    (nothing : A) (none : (f : ℕ) → of f [] ≡ nothing)
    (more : (f b : ℕ) (bs : List ℕ) → of (suc f) (b ∷ bs) ≡ turn (b ∷ bs) (of f (rest (b ∷ bs))))
    (shorter : (b : ℕ) (bs : List ℕ) → length (rest (b ∷ bs)) ≤ length bs) where
  pub enough : (f g : ℕ) (xs : List ℕ) → length xs ≤ f → length xs ≤ g → of f xs ≡ of g xs
  enough zero g [] h k = none zero ∙ sym (none g)
  enough zero g (b ∷ bs) h k = absurd (omega arith)
  enough (suc f) g [] h k = none (suc f) ∙ sym (none g)
  enough (suc f) zero (b ∷ bs) h k = absurd (omega arith)
  enough (suc f) (suc g) (b ∷ bs) h k =
      let s = shorter b bs in
      more f b bs ∙ ap (turn (b ∷ bs)) (enough f g (rest (b ∷ bs)) (omega arith) (omega arith)) ∙ sym (more g b bs)
