use Rattle.keys.proofs.Lowered.{part_laws}
use Rattle.keys.proofs.is_lowered_part.Goals as goal

pub loop-b-preserved : goal.loop-b-preserved
loop-b-preserved c = search part_laws

pub returns : goal.returns
returns c = search part_laws
