-- What the readers of groups promise.
use Rattle.std.specs.Prelude.{ℕ, List, map, eqb, length, Option, Some, None}
use Rattle.rules.specs.Lists.{pick, split_on, join_all, be, lower}
use Rattle.rules.specs.Fields.{group, group_bytes, hex_from, address_if}
use Rattle.digits.specs.Digits.{hex_of}

-- a digit, its letter in either case
unfoldable pub any_hex_of : ℕ → Option ℕ
any_hex_of b = hex_of (lower b)

-- one group
unfoldable pub group_of : List ℕ → Option ℕ
group_of t = pick (group t) (Some (hex_from 0 t)) None

-- each group as two bytes, the high one first
unfoldable pub groups_bytes : List ℕ → List ℕ
groups_bytes groups = join_all (map (be 2) groups)

-- eight groups joined by underscores
unfoldable pub groups_of : List ℕ → Option (List ℕ)
groups_of text = address_if (eqb (length (split_on 95 text)) 8) group group_bytes (split_on 95 text)
