-- The keys that can answer for a name: the name itself and its ancestors.
use Rattle.std.specs.Prelude.{ℕ, ◌<◌, ◌≡◌, Bool, false, ◌||◌, List, [], ◌∷◌, length, get_or, eqb}
use Rattle.rules.specs.Lists.{same_bytes}
use Rattle.rules.specs.Questions.{ancestors}

unfoldable pub among : List ℕ → List (List ℕ) → Bool
among key [] = false
among key (a ∷ names) = same_bytes key a || among key names

unfoldable pub related : List ℕ → List ℕ → Bool
related name key = among key (name ∷ ancestors name)

-- whether one of these names has a length
unfoldable pub has_length : ℕ → List (List ℕ) → Bool
has_length k [] = false
has_length k (a ∷ names) = eqb (length a) k || has_length k names

-- a table with true at the lengths that the name and its ancestors have, and at no other; it has a place for each
pub record Lengths (table : List Bool) (name : List ℕ) : Type 0 where
  pub room : length name < length table
  pub told : (k : ℕ) → get_or table k false ≡ has_length k (name ∷ ancestors name)
