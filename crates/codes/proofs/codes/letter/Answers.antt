use Rattle.codes.proofs.Los.{letter_laws}
use Rattle.codes.proofs.codes.letter.Goals as goal

pub returns-then-is_letter : goal.returns-then-is_letter
returns-then-is_letter c = search letter_laws

pub returns-else-is_letter : goal.returns-else-is_letter
returns-else-is_letter c = search letter_laws
