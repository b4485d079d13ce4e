use Rattle.locate.proofs.Steps.{related_laws}
use Rattle.locate.proofs.related_step.Goals as goal

pub returns-then-wild : goal.returns-then-wild
returns-then-wild c = search related_laws

pub returns : goal.returns
returns c = search related_laws
