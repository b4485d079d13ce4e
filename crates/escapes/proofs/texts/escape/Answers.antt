use Rattle.escapes.proofs.Escape.{escape_laws}
use Rattle.escapes.proofs.texts.escape.Goals as goal

pub returns-in-48-to-51-48-to-55-48-to-55 : goal.returns-in-48-to-51-48-to-55-48-to-55
returns-in-48-to-51-48-to-55-48-to-55 c = search escape_laws

pub returns-in_default : goal.returns-in_default
returns-in_default c = search escape_laws

pub returns-in_default-2 : goal.returns-in_default-2
returns-in_default-2 c = search escape_laws

pub returns-in_default-3 : goal.returns-in_default-3
returns-in_default-3 c = search escape_laws

pub returns-in_default-4 : goal.returns-in_default-4
returns-in_default-4 c = search escape_laws

pub returns-in_default-5 : goal.returns-in_default-5
returns-in_default-5 c = search escape_laws

pub returns-in_default-6 : goal.returns-in_default-6
returns-in_default-6 c = search escape_laws
