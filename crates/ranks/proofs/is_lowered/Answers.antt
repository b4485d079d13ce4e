use Rattle.ranks.proofs.Lowering.{letter_laws}
use Rattle.ranks.proofs.is_lowered.Goals as goal

pub returns-then-b-lt65 : goal.returns-then-b-lt65
returns-then-b-lt65 c = search letter_laws

pub returns-then-b-gt90 : goal.returns-then-b-gt90
returns-then-b-gt90 c = search letter_laws

pub overflow_add-result : goal.overflow_add-result
overflow_add-result c = search letter_laws

pub returns : goal.returns
returns c = search letter_laws
