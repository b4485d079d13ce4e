-- What the readers of octets promise.
use Rattle.std.specs.Prelude.{ℕ, Bool, not, ◌||◌, List, eqb, leb, length, Option, Some, None}
use Rattle.rules.specs.Lists.{pick, split_on}
use Rattle.rules.specs.Fields.{decimal_from, first_is_zero, octet, octet_byte, address_if}

-- a zero stands in front of more
unfoldable pub leading_zero : List ℕ → Bool
leading_zero t = not (eqb (length t) 1 || not (first_is_zero t))

-- one number
unfoldable pub octet_of : List ℕ → Option ℕ
octet_of t = pick (octet t) (Some (decimal_from 0 t)) None

-- one to four numbers joined by dots
unfoldable pub octets_of : List ℕ → Option (List ℕ)
octets_of text = address_if (leb (length (split_on 46 text)) 4) octet octet_byte (split_on 46 text)
