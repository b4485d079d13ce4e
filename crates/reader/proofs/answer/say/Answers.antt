use Rattle.reader.proofs.Passes.{say_laws}
use Rattle.reader.proofs.answer.say.Goals as goal

pub returns : goal.returns
returns c = search say_laws
