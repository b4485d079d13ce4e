use Rattle.ranks.proofs.Lowering.{same_laws}
use Rattle.ranks.proofs.same_lowered.Goals as goal

pub returns-then-key-name : goal.returns-then-key-name
returns-then-key-name c = search same_laws

pub returns-then-not-is_lowered : goal.returns-then-not-is_lowered
returns-then-not-is_lowered c = search same_laws

pub loop-i-preserved : goal.loop-i-preserved
loop-i-preserved c = search same_laws

pub returns : goal.returns
returns c = search same_laws
