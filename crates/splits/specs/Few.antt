-- Fields, if they are no more than there may be.
use Rattle.std.specs.Prelude.{Option, Some, None, List, ℕ, length, leb}
use Rattle.rules.specs.Lists.{pick}

unfoldable pub if_few : ℕ → List (List ℕ) → Option (List (List ℕ))
if_few most fields = pick (leb (length fields) most) (Some fields) None
