use Rattle.reader.proofs.Asking.{client_laws}
use Rattle.reader.proofs.is_client.Goals as goal

pub returns-in-4 : goal.returns-in-4
returns-in-4 c = search client_laws

pub returns-in_default : goal.returns-in_default
returns-in_default c = search client_laws
