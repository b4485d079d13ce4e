use Rattle.locate.proofs.Steps.{matches_laws}
use Rattle.locate.proofs.matches.Goals as goal

pub returns-then-client-ne4 : goal.returns-then-client-ne4
returns-then-client-ne4 c = search matches_laws

pub returns : goal.returns
returns c = search matches_laws
