use Rattle.zones.proofs.ZoneRecords.{ending, lasting}
use Rattle.zones.proofs.zones.soa_shared.Goals as goal
use Rattle.zones.proofs.zones.soa_shared.Goals.{then-shared-eq0, else-shared-eq0}

pub returns : goal.returns
returns c =
    elim c.if-shared-eq0.branch [
      | then-shared-eq0 w ↦ ending c.args.shared _ w.if-shared-eq0.true w.ttl-is
      | else-shared-eq0 w ↦ lasting c.args.shared _ w.if-shared-eq0.false w.ttl-is
    ]
