use Rattle.reader.proofs.Asking.{ask_laws}
use Rattle.reader.proofs.ask.Goals as goal

pub returns-then-not-is_wire : goal.returns-then-not-is_wire
returns-then-not-is_wire c = search ask_laws

pub returns-then-moment-gt-LAST_MOMENT : goal.returns-then-moment-gt-LAST_MOMENT
returns-then-moment-gt-LAST_MOMENT c = search ask_laws

pub returns-then-not-is_client : goal.returns-then-not-is_client
returns-then-not-is_client c = search ask_laws

pub returns-in_default : goal.returns-in_default
returns-in_default c = search ask_laws

pub invariant_of-asked : goal.invariant_of-asked
invariant_of-asked c = search ask_laws

pub returns : goal.returns
returns c = search ask_laws
