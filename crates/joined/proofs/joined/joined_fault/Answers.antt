use Rattle.joined.proofs.Joining.{joined_laws}
use Rattle.joined.proofs.joined.joined_fault.Goals as goal

pub returns-then-middle-eq0 : goal.returns-then-middle-eq0
returns-then-middle-eq0 c = search joined_laws

pub returns-then-host-gt255 : goal.returns-then-host-gt255
returns-then-host-gt255 c = search joined_laws

pub returns : goal.returns
returns c = search joined_laws
