use mathlib.Core.Path.{refl}
use Rattle.zones.proofs.ZoneRecords.{ns_label, delegation_laws}
use Rattle.zones.proofs.zones.put_delegation_line.Goals as goal

pub read-line-requires : goal.read-line-requires
read-line-requires c = (c.requires.0, refl, ns_label)

pub put_server-requires : goal.put_server-requires
put_server-requires c = search delegation_laws

pub returns : goal.returns
returns c = search delegation_laws
