use Rattle.locate.proofs.Steps.{better_laws}
use Rattle.locate.proofs.better_in.Goals as goal

pub returns-then-not-matches : goal.returns-then-not-matches
returns-then-not-matches c = search better_laws

pub returns-then-long-located : goal.returns-then-long-located
returns-then-long-located c = search better_laws

pub returns : goal.returns
returns c = search better_laws
