use Rattle.wire.proofs.Numbers.{from_be_laws}
use Rattle.wire.proofs.get.get_be.Goals as goal

pub loop-b-preserved : goal.loop-b-preserved
loop-b-preserved c = search from_be_laws

pub returns : goal.returns
returns c = search from_be_laws
