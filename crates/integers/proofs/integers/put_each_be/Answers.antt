use Rattle.integers.proofs.Sequences.{sequence_laws}
use Rattle.integers.proofs.integers.put_each_be.Goals as goal

pub loop-n-init : goal.loop-n-init
loop-n-init g c = search sequence_laws

pub loop-n-preserved : goal.loop-n-preserved
loop-n-preserved g c = search sequence_laws
