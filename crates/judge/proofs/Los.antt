-- Two bytes that are a lo.
use mathlib.Core.Path.{◌≡◌}
use mathlib.Core.Bool.{Bool, true, false, not}
use mathlib.Core.List.{[], ◌∷◌}
use Prim.Native.Nat.{ℕ}
use borrow.Author.Rules.{rules}
use borrow.Author.Tests.{eq-eqb, ne_eqb, not-true, not-false}
use Rattle.rules.specs.Fields.{letter}
use Rattle.rules.specs.Reading.{is_lo}

module _ (a b : ℕ) (t : Bool) (q : t ≡ letter a) where
  pub no_letter : not t ≡ true → false ≡ is_lo (a ∷ b ∷ [])
  unfolding is_lo
  no_letter u = rw (← q, not-true t u)

  pub one_letter : not t ≡ false → b ≡ 0 → true ≡ is_lo (a ∷ b ∷ [])
  unfolding is_lo
  one_letter u z = rw (← q, not-false t u, eq-eqb b 0 z)

  pub two_letters : (v : Bool) → not t ≡ false → (b ≡ 0 → ⊥) → v ≡ letter b → v ≡ is_lo (a ∷ b ∷ [])
  unfolding is_lo
  two_letters v u z w = rw (← q, not-false t u, ne_eqb b 0 z) w

pub ruleset lo_laws = (rules, no_letter, one_letter, two_letters)
