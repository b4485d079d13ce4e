use Rattle.judge.proofs.SeenRecords.{wildcard_laws}
use Rattle.judge.proofs.is_wildcard.Goals as goal

pub returns-in-42 : goal.returns-in-42
returns-in-42 c = search wildcard_laws

pub returns-in_default : goal.returns-in_default
returns-in_default c = search wildcard_laws

pub returns-in_default-2 : goal.returns-in_default-2
returns-in_default-2 c = search wildcard_laws
