use Rattle.view.proofs.Viewing.{time_laws}
use Rattle.view.proofs.in_time.Goals as goal

pub returns-then-time-eq0 : goal.returns-then-time-eq0
returns-then-time-eq0 c = search time_laws

pub returns-then-ttl-eq0 : goal.returns-then-ttl-eq0
returns-then-ttl-eq0 c = search time_laws

pub returns : goal.returns
returns c = search time_laws
