-- The label `*` in front of a name.
use mathlib.Core.Path.{◌≡◌, refl, sym}
use mathlib.Core.Bool.{true, false}
use mathlib.Core.List.{List, [], ◌∷◌}
use Prim.Native.Nat.{ℕ, ◌<◌, ◌≤◌}
use native.Mathlib.Omega.{arith}
use borrow.Author.Rules.{rules}
use borrow.Author.Tests.{ne_eqb}
use lib.Dec.{eqb}
use lib.ListN.{length, get_or}
use Rattle.rules.specs.Lists.{begins_with}
use Rattle.rules.specs.Bytes.{wild}
use Rattle.wire.proofs.Compare.{and_false, too_short}

pub one_byte : (name : List ℕ) → length name < 2 → false ≡ wild name
unfolding wild
one_byte name h = too_short (1 ∷ 42 ∷ []) name h

pub other_label : (name : List ℕ) → 2 ≤ length name → (get_or name 0 0 ≡ 1 → ⊥) → false ≡ wild name
unfolding wild begins_with
other_label [] h q = absurd (omega arith)
other_label (a ∷ name) h q = rw (ne_eqb 1 a (λ e. q (sym e)))

pub other_star : (name : List ℕ) → 2 ≤ length name → (get_or name 1 0 ≡ 42 → ⊥) → false ≡ wild name
unfolding wild begins_with
other_star [] h q = absurd (omega arith)
other_star (a ∷ []) h q = absurd (omega arith)
other_star (a ∷ b ∷ name) h q = rw (ne_eqb 42 b (λ e. q (sym e)), and_false (eqb 1 a))

pub one_star : (name : List ℕ) → 2 ≤ length name → get_or name 0 0 ≡ 1 → get_or name 1 0 ≡ 42 → true ≡ wild name
unfolding wild begins_with
one_star [] h p q = absurd (omega arith)
one_star (a ∷ []) h p q = absurd (omega arith)
one_star (a ∷ b ∷ name) h p q = rw (p, q) refl

pub ruleset wild_laws = (rules, one_byte, other_label, other_star, one_star)
