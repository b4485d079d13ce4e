use Rattle.judge.proofs.SeenRecords.{fields_laws}
use Rattle.judge.proofs.shared_in.Goals as goal

pub returns-then-rest-lt12 : goal.returns-then-rest-lt12
returns-then-rest-lt12 c = search fields_laws

pub returns-then-ttl-gt-LARGEST_TTL : goal.returns-then-ttl-gt-LARGEST_TTL
returns-then-ttl-gt-LARGEST_TTL c = search fields_laws

pub returns-then-time-gt-LAST_MOMENT : goal.returns-then-time-gt-LAST_MOMENT
returns-then-time-gt-LAST_MOMENT c = search fields_laws

pub returns : goal.returns
returns c = search fields_laws
