use mathlib.Core.Path.{refl}
use Rattle.rules.specs.Lists.{pick, lower}
use Rattle.letters.proofs.Tables.{lowers}
use Rattle.letters.proofs.letters.letter_table.Goals as goal

-- The table's rule is one test, computed over its 256 entries.

pub returns : goal.returns
unfolding lower pick
returns c = lowers _ tt refl
