use Rattle.wire.proofs.WildNames.{wild_laws}
use Rattle.wire.proofs.stars.is_wild.Goals as goal

pub returns-in-1 : goal.returns-in-1
returns-in-1 c = search wild_laws

pub returns-in_default : goal.returns-in_default
returns-in_default c = search wild_laws

pub returns-in_default-2 : goal.returns-in_default-2
returns-in_default-2 c = search wild_laws

pub returns-in_default-3 : goal.returns-in_default-3
returns-in_default-3 c = search wild_laws
