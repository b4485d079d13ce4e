-- A text's first chunk.
use Rattle.std.specs.Prelude.{ℕ, ltb}
use Rattle.rules.specs.Lists.{pick}

-- how many bytes it has, of a text of n
unfoldable pub chunk_size : ℕ → ℕ
chunk_size n = pick (ltb 127 n) 127 n
