-- A label put on the wire.
use mathlib.Core.Path.{◌≡◌, refl, ap}
use mathlib.Core.List.{List, [], ◌∷◌}
use Prim.Native.Nat.{ℕ, ◌+◌, ◌≤◌}
use native.Mathlib.Omega.{arith}
use borrow.Author.Rules.{rules}
use lib.ListN.{length, set}
use Rattle.rules.specs.Names.{label}
use Rattle.wire.proofs.Parts.{lent_at, back_at}
use Rattle.buffer.specs.Put.{IsPut}
use Rattle.buffer.proofs.Puts.{nothing, byte, then}

label_of : (x : List ℕ) → (length x ≡ 0 → ⊥) → label x ≡ length x ∷ x
unfolding label
label_of [] h = absurd (h refl)
label_of (b ∷ x) h = refl

pub no_label : (x d : List ℕ) → length x ≡ 0 → IsPut (label x) d d 0
unfolding label
no_label [] d h = nothing d
no_label (b ∷ x) d h = absurd (omega arith)

module _ (x d : List ℕ) (h : length x ≡ 0 → ⊥) (m : length (label x) ≤ length d) where
  pub label_room : length x + 1 ≤ length d
  label_room = omega (arith, ap length (label_of x h))

  pub label_put : (e : List ℕ) (k : ℕ) → IsPut x (lent_at 1 (set d 0 (length x))) e k → IsPut (label x) d (back_at 1 (set d 0 (length x)) e) (1 + k)
  label_put e k q = rw (label_of x h) (then (length x ∷ []) d (set d 0 (length x)) 1 (byte d (length x) (omega (arith, label_room))) x e k q)

pub ruleset label_laws = (rules, no_label, label_room, label_put)
