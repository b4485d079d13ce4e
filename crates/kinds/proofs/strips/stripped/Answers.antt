use Rattle.kinds.proofs.Stripping.{strip_laws}
use Rattle.kinds.proofs.strips.stripped.Goals as goal

pub loop-left-init : goal.loop-left-init
loop-left-init c = search strip_laws

pub loop-left-preserved : goal.loop-left-preserved
loop-left-preserved c = search strip_laws

pub returns-in_default : goal.returns-in_default
returns-in_default c = search strip_laws

pub returns-in_default-2 : goal.returns-in_default-2
returns-in_default-2 c = search strip_laws
