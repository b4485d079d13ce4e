-- What a function that fills a buffer leaves there.
use Rattle.std.specs.Prelude.{◌≡◌, List, ℕ, ◌-◌, ◌≤◌, ◌++◌, length, drop, replicate}
use Rattle.std.specs.Borrow.{MutBor}

-- P holds of the bytes and of the answer, whatever a call with n bytes leaves and answers
abbrev pub EachFilling : ℕ → (MutBor (List ℕ) → ℕ → MutBor (List ℕ) → Type 0) → (List ℕ → ℕ → Type 0) → Type 0
EachFilling n post P = (room full : MutBor (List ℕ)) (len : ℕ) → length room.now ≡ n → post room len full → P full.now len

-- of n bytes the first len are filled, and those behind them are zeros
abbrev pub IsFilled : ℕ → ℕ → List ℕ → Type 0
IsFilled n len bytes = (len ≤ n) × (length bytes ≡ n) × (drop len bytes ≡ replicate (n - len) 0)

-- the bytes x, and zeros behind them up to n bytes
unfoldable pub padded : ℕ → List ℕ → List ℕ
padded n x = x ++ replicate (n - length x) 0
