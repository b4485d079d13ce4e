-- What a function says of each byte.
use Rattle.std.specs.Prelude.{◌≡◌, List, ℕ}

-- each answer at a byte is what f gives
abbrev pub Gives : (ℕ → List ℕ → Type 0) → (ℕ → List ℕ) → Type 0
Gives post f = (n : ℕ) (r : List ℕ) → post n r → r ≡ f n
