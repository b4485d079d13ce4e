-- A text read from its front, as the code goes through it. proofs/Escape.antt shows that it is the rules' own reading.
use Rattle.std.specs.Prelude.{ℕ, ◌+◌, ◌-◌, ◌*◌, ◌&&◌, List, [], ◌∷◌, leb, eqb, Option, Some, None, option_map}
use Rattle.rules.specs.Lists.{pick}
use Rattle.rules.specs.Fields.{octal}

-- the byte that three octal digits stand for
unfoldable pub escape_of : ℕ → ℕ → ℕ → Option ℕ
escape_of c d e = pick (leb 48 c && leb c 51 && octal d && octal e) (Some ((c - 48) * 64 + (d - 48) * 8 + (e - 48))) None

-- the byte that stands behind a backslash, and what is behind it
unfoldable pub escaped_front : List ℕ → Option (ℕ × List ℕ)
escaped_front [] = None
escaped_front (c ∷ []) = None
escaped_front (c ∷ d ∷ []) = None
escaped_front (c ∷ d ∷ e ∷ t) = option_map (λ b. (b, t)) (escape_of c d e)

-- the byte at the front of a text, and what is behind it
unfoldable pub front_of : List ℕ → Option (ℕ × List ℕ)
front_of [] = None
front_of (b ∷ t) = pick (eqb b 92) (escaped_front t) (Some (b, t))
