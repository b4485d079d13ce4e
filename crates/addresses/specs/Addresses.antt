-- The two forms of an address.
use Rattle.std.specs.Prelude.{List, ℕ, eqb, length, Option}
use Rattle.rules.specs.Lists.{split_on}
use Rattle.rules.specs.Fields.{octet, octet_byte, group, group_bytes, address_if}

unfoldable pub dotted_address : List ℕ → Option (List ℕ)
dotted_address text = address_if (eqb (length (split_on 46 text)) 4) octet octet_byte (split_on 46 text)

unfoldable pub grouped_address : List ℕ → Option (List ℕ)
grouped_address text = address_if (eqb (length (split_on 95 text)) 8) group group_bytes (split_on 95 text)
