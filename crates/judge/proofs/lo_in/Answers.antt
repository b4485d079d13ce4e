use Rattle.judge.proofs.SeenRecords.{lo_laws}
use Rattle.judge.proofs.lo_in.Goals as goal

pub returns-then-rdata-lt5 : goal.returns-then-rdata-lt5
returns-then-rdata-lt5 c = search lo_laws

pub returns-then-not-is_lo : goal.returns-then-not-is_lo
returns-then-not-is_lo c = search lo_laws

pub returns : goal.returns
returns c = search lo_laws
