-- The loops that compare bytes, place by place.
use mathlib.Core.Path.{◌≡◌, refl, ap, ◌∙◌, sym}
use mathlib.Core.Bool.{Bool, true, false, ◌&&◌}
use mathlib.Core.List.{List, [], ◌∷◌, map}
use Prim.Native.Nat.{ℕ, suc, ◌+◌, ◌<◌, ◌≤◌}
use native.Mathlib.Omega.{arith}
use borrow.Author.Tests.{eq-eqb, ne_eqb}
use lib.Dec.{eqb}
use lib.ListN.{length, get_or, drop, drop_of_length-le, length-map, get_or-map}
use Rattle.rules.specs.Lists.{pick, lower, same_bytes, begins_with}
use Rattle.wire.proofs.Steps.{left_at}

pub and_false : (b : Bool) → (b && false) ≡ false
and_false true = refl
and_false false = refl

and_right : (a b : Bool) → (a && b) ≡ true → b ≡ true
and_right true b e = e
and_right false b e = absurd (let z : ◌≡◌ {A = ℕ} 0 1 = cc in omega arith)

pub other_length : (a b : List ℕ) → (length a ≡ length b → ⊥) → false ≡ same_bytes a b
unfolding same_bytes
other_length [] [] h = absurd (h refl)
other_length [] (y ∷ b) h = refl
other_length (x ∷ a) [] h = refl
other_length (x ∷ a) (y ∷ b) h = rw (← (other_length a b (λ e. h (ap suc e))), and_false)

module _ (a b : List ℕ) (i : ℕ) (e : same_bytes (drop i a) (drop i b) ≡ same_bytes a b) where
  pub same_next : i < length a → length a ≡ length b → get_or a i 0 ≡ get_or b i 0 → same_bytes (drop (i + 1) a) (drop (i + 1) b) ≡ same_bytes a b
  unfolding same_bytes
  same_next h l q = rw (left_at a i h, left_at b i (omega arith), eq-eqb _ _ q) at e

  pub differs : i < length a → length a ≡ length b → (get_or a i 0 ≡ get_or b i 0 → ⊥) → false ≡ same_bytes a b
  unfolding same_bytes
  differs h l q = rw (left_at a i h, left_at b i (omega arith), ne_eqb _ _ q) at e

  pub same_end : length a ≤ i → length a ≡ length b → true ≡ same_bytes a b
  unfolding same_bytes
  same_end h l = rw (drop_of_length-le a h, drop_of_length-le b {i = i} (omega arith)) at e

pub too_short : (a b : List ℕ) → length b < length a → false ≡ begins_with a b
unfolding begins_with
too_short [] b h = absurd (omega arith)
too_short (x ∷ a) [] h = refl
too_short (x ∷ a) (y ∷ b) h = rw (← (too_short a b (omega arith)), and_false)

pub longer : (a b : List ℕ) → begins_with a b ≡ true → length a ≤ length b
unfolding begins_with
longer [] b e = omega arith
longer (x ∷ a) [] e = absurd (let z : ◌≡◌ {A = ℕ} 0 1 = cc in omega arith)
longer (x ∷ a) (y ∷ b) e = let h = longer a b (and_right (eqb x y) (begins_with a b) e) in omega arith

-- the same with a name whose letters are lowered as they are compared
lowered_at : (name : List ℕ) (i : ℕ) → get_or (map lower name) i 0 ≡ lower (get_or name i 0)
unfolding lower pick
lowered_at name i = get_or-map lower name i 0

pub other_length_lowered : (key name : List ℕ) → (length key ≡ length name → ⊥) → false ≡ same_bytes key (map lower name)
other_length_lowered key name h = other_length key (map lower name) (λ e. h (e ∙ length-map name lower))

module _ (key name : List ℕ) (i : ℕ) (e : same_bytes (drop i key) (drop i (map lower name)) ≡ same_bytes key (map lower name)) (l : length key ≡ length name) where
  as_long : length key ≡ length (map lower name)
  as_long = l ∙ sym (length-map name lower)

  pub same_next_lowered : (b : ℕ) → i < length key → get_or key i 0 ≡ b → b ≡ lower (get_or name i 0)
      → same_bytes (drop (i + 1) key) (drop (i + 1) (map lower name)) ≡ same_bytes key (map lower name)
  same_next_lowered b h k q = same_next key (map lower name) i e h as_long (k ∙ q ∙ sym (lowered_at name i))

  pub differs_lowered : (b : ℕ) → i < length key → b ≡ lower (get_or name i 0) → (get_or key i 0 ≡ b → ⊥) → false ≡ same_bytes key (map lower name)
  differs_lowered b h q k = differs key (map lower name) i e h as_long (λ w. k (w ∙ lowered_at name i ∙ sym q))

  pub same_end_lowered : length key ≤ i → true ≡ same_bytes key (map lower name)
  same_end_lowered h = same_end key (map lower name) i e h as_long
