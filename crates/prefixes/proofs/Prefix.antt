-- The laws of a prefix, from what its numbers tell.
use Rattle.std.proofs.Common.{◌≡◌, refl, ℕ, List, [], ◌∷◌, length, Some, arith}
use Rattle.rules.specs.Fields.{prefix_of}
use Rattle.octets.specs.Octets.{octets_of}

pub no_prefix : (s : List ℕ) → length s ≡ 0 → Some [] ≡ prefix_of s
unfolding prefix_of
no_prefix [] h = refl
no_prefix (x ∷ s) h = absurd (omega arith)

pub some_prefix : (s : List ℕ) → (length s ≡ 0 → ⊥) → octets_of s ≡ prefix_of s
unfolding prefix_of octets_of
some_prefix [] h = absurd (h refl)
some_prefix (x ∷ s) h = refl
