use Rattle.locate.proofs.Steps.{grown_laws}
use Rattle.locate.proofs.grown.Goals as goal

pub returns-then-not-taken : goal.returns-then-not-taken
returns-then-not-taken c = search grown_laws

pub returns-in-Some : goal.returns-in-Some
returns-in-Some c = search grown_laws

pub returns-in-None : goal.returns-in-None
returns-in-None c = search grown_laws
