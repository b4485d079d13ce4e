-- The first line of a source.
use Rattle.std.specs.Prelude.{List, [], ◌∷◌, ℕ, eqb}
use Rattle.rules.specs.Lists.{pick}

unfoldable pub first_line : List ℕ → List ℕ
first_line [] = []
first_line (b ∷ bs) = pick (eqb b 10) [] (b ∷ first_line bs)
