use Rattle.judge.proofs.Los.{lo_laws}
use Rattle.judge.proofs.is_lo.Goals as goal

pub returns-then-not-is_letter : goal.returns-then-not-is_letter
returns-then-not-is_letter c = search lo_laws

pub returns-then-b-eq0 : goal.returns-then-b-eq0
returns-then-b-eq0 c = search lo_laws

pub returns : goal.returns
returns c = search lo_laws
