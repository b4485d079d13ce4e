use Rattle.picks.proofs.Lifetimes.{lifetime_laws}
use Rattle.picks.proofs.lifetime.Goals as goal

pub returns-then-ttl-gt0 : goal.returns-then-ttl-gt0
returns-then-ttl-gt0 c = search lifetime_laws

pub returns-then-time-eq0 : goal.returns-then-time-eq0
returns-then-time-eq0 c = search lifetime_laws

pub returns-then-time-moment : goal.returns-then-time-moment
returns-then-time-moment c = search lifetime_laws

pub overflow_sub-left : goal.overflow_sub-left
overflow_sub-left c = search lifetime_laws

pub returns-then-left-lt2 : goal.returns-then-left-lt2
returns-then-left-lt2 c = search lifetime_laws

pub returns-then-left-gt3600 : goal.returns-then-left-gt3600
returns-then-left-gt3600 c = search lifetime_laws

pub overflow_cast-result : goal.overflow_cast-result
overflow_cast-result c = search lifetime_laws

pub returns : goal.returns
returns c = search lifetime_laws
