use Rattle.integers.proofs.Sequences.{sequence_laws}
use Rattle.integers.proofs.integers.put_each_le.Goals as goal

pub loop-n-init : goal.loop-n-init
loop-n-init c = search sequence_laws

pub loop-n-preserved : goal.loop-n-preserved
loop-n-preserved c = search sequence_laws
