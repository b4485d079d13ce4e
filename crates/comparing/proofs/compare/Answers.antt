use Rattle.comparing.proofs.Pairs.{pair_laws}
use Rattle.comparing.proofs.compare.Goals as goal

pub returns-then-n-name : goal.returns-then-n-name
returns-then-n-name c = search pair_laws

pub loop-i-init : goal.loop-i-init
loop-i-init c = search pair_laws

pub returns-then-b-name : goal.returns-then-b-name
returns-then-b-name c = search pair_laws

pub loop-i-preserved : goal.loop-i-preserved
loop-i-preserved c = search pair_laws

pub returns : goal.returns
returns c = search pair_laws
