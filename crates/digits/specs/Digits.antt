-- The values of digits, and the numbers that they say.
use Rattle.std.specs.Prelude.{ℕ, ◌+◌, ◌*◌, ◌-◌, ◌&&◌, List, [], ◌∷◌, length, eqb, Option, Some, None}
use Rattle.std.specs.Option.{option_and_then}
use Rattle.rules.specs.Lists.{pick, all}
use Rattle.rules.specs.Fields.{digit, lower_hex_digit, hex_value, hex_from}

-- of a decimal digit, and of a hexadecimal one with letters in lower case
unfoldable pub decimal_of : ℕ → Option ℕ
decimal_of b = pick (digit b) (Some (b - 48)) None

unfoldable pub hex_of : ℕ → Option ℕ
hex_of b = pick (lower_hex_digit b) (Some (hex_value b)) None

-- what digits say behind the number n
module _ (base : ℕ) (digit_of : ℕ → Option ℕ) where
  unfoldable pub value_from : ℕ → List ℕ → Option ℕ
  value_from n [] = Some n
  value_from n (b ∷ bs) = option_and_then (λ d. value_from (n * base + d) bs) (digit_of b)

-- what a text of just n digits in lower case says
unfoldable pub hex_just : ℕ → List ℕ → Option ℕ
hex_just n t = pick (eqb (length t) n && all lower_hex_digit t) (Some (hex_from 0 t)) None
