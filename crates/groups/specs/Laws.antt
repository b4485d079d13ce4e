-- The law of digits in either case.
use Rattle.std.specs.Prelude.{ℕ, ◌<◌, ◌≡◌, Some}
use Rattle.rules.specs.Lists.{lower}
use Rattle.digits.specs.Laws.{hex_below}
use Rattle.groups.specs.Groups.{any_hex_of}

pub any_hex_below : (b d : ℕ) → any_hex_of b ≡ Some d → d < 16
unfolding any_hex_of
any_hex_below b d e = hex_below (lower b) d e
