use Rattle.octets.proofs.Octet.{zero_laws}
use Rattle.octets.proofs.octets.leads_with_zero.Goals as goal

pub returns-then-text-lt2 : goal.returns-then-text-lt2
returns-then-text-lt2 c = search zero_laws

pub bounds-text-0 : goal.bounds-text-0
bounds-text-0 c = search zero_laws

pub returns : goal.returns
returns c = search zero_laws
