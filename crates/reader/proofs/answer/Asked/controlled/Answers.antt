use Rattle.reader.proofs.Passes.{control_laws}
use Rattle.reader.proofs.answer.Asked.controlled.Goals as goal

pub returns-then-not-is_found : goal.returns-then-not-is_found
returns-then-not-is_found c = search control_laws

pub returns : goal.returns
returns c = search control_laws
