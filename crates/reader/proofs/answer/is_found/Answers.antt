use Rattle.reader.proofs.Passes.{found_laws}
use Rattle.reader.proofs.answer.is_found.Goals as goal

pub returns-in-Found : goal.returns-in-Found
returns-in-Found c = search found_laws

pub returns-in_default : goal.returns-in_default
returns-in_default c = search found_laws
