use Rattle.integers.proofs.IntegerStores.{le_laws}
use Rattle.integers.proofs.integers.put_le.Goals as goal

-- The invariant: what is stored, and the bytes of what is left behind it, are the bytes of the number.

pub loop-byte-preserved : goal.loop-byte-preserved
loop-byte-preserved c = search le_laws

pub returns-clause-put : goal.returns-clause-put
returns-clause-put c = search le_laws
