use Rattle.judge.proofs.KnownRecords.{known_flag_laws}
use Rattle.judge.proofs.known.known_flag.Goals as goal

pub bounds-rdata-3 : goal.bounds-rdata-3
bounds-rdata-3 c = search known_flag_laws

pub bounds-rdata-4 : goal.bounds-rdata-4
bounds-rdata-4 c = search known_flag_laws

pub returns-in-61 : goal.returns-in-61
returns-in-61 c = search known_flag_laws

pub returns-in-42 : goal.returns-in-42
returns-in-42 c = search known_flag_laws

pub returns-in_default : goal.returns-in_default
returns-in_default c = search known_flag_laws
