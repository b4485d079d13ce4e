use Rattle.integers.proofs.IntegerStores.{be_laws}
use Rattle.integers.proofs.integers.U32Number4.highest_first.Goals as goal

pub returns : goal.returns
returns c = search be_laws
