use mathlib.Core.Path.{refl}
use Rattle.services.proofs.ServiceRecords.{srv_label, service_room, service_put}
use Rattle.services.proofs.services.put_service_line.Goals as goal

pub read-line-requires : goal.read-line-requires
read-line-requires c = (c.requires.0, refl, srv_label)

pub put_service-requires : goal.put_service-requires
put_service-requires c =
    service_room _ _ _ _ _ c.read-line.ensures c.short_at-port.ensures c.short_at-priority.ensures c.short_at-weight.ensures _ c.requires.1

pub returns : goal.returns
returns c =
    service_put _ _ _ _ _ c.read-line.ensures c.short_at-port.ensures c.short_at-priority.ensures c.short_at-weight.ensures _ _ _ c.put_service.ensures
