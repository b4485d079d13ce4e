-- What every writer promises of the buffer that it is lent.
use Rattle.std.specs.Prelude.{◌≡◌, List, ◌++◌, ℕ, ◌≤◌, length, drop}

-- the bytes x stand at the front of what was `before` and is `after`; the rest is as it was, and r is their count
pub record IsPut (x before after : List ℕ) (r : ℕ) : Type 0 where
  pub count : r ≡ length x
  pub room : length x ≤ length before
  pub holds : after ≡ x ++ drop (length x) before
