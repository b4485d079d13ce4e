use Rattle.reader.proofs.Passes.{answer_laws}
use Rattle.reader.proofs.answer.Asked.answer.Goals as goal

pub returns-then-control-eq0 : goal.returns-then-control-eq0
returns-then-control-eq0 c = search answer_laws

pub returns : goal.returns
returns c = search answer_laws
