-- What a table of the 256 bytes is that lowers letters.
use Rattle.std.specs.Prelude.{◌≡◌, List, ℕ, ◌<◌, length, get_or}
use Rattle.rules.specs.Lists.{lower}

pub record Lowers (table : List ℕ) : Type 0 where
  pub count : length table ≡ 256
  pub entry : (b : ℕ) → b < 256 → get_or table b 0 ≡ lower b
