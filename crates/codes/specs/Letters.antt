-- A letter, or nothing.
use Rattle.std.specs.Prelude.{ℕ, Option, Some, None}
use Rattle.rules.specs.Lists.{pick}
use Rattle.rules.specs.Fields.{letter}

unfoldable pub letter_of : ℕ → Option ℕ
letter_of b = pick (letter b) (Some b) None
