use Rattle.reader.proofs.Passes.{zone_laws}
use Rattle.reader.proofs.answer.Asked.in_zone.Goals as goal

pub returns-then-best-control : goal.returns-then-best-control
returns-then-best-control c = search zone_laws

pub returns : goal.returns
returns c = search zone_laws
