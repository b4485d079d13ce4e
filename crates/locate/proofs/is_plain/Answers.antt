use Rattle.locate.proofs.Steps.{plain_laws}
use Rattle.locate.proofs.is_plain.Goals as goal

pub returns-in-Some-Owned : goal.returns-in-Some-Owned
returns-in-Some-Owned c = search plain_laws

pub returns-in-Some-Location : goal.returns-in-Some-Location
returns-in-Some-Location c = search plain_laws

pub returns-in-None : goal.returns-in-None
returns-in-None c = search plain_laws
