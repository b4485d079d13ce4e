use mathlib.Core.Path.{refl}
use Rattle.zones.proofs.ZoneRecords.{zone_label, zone_line_laws, zone_put}
use Rattle.zones.proofs.zones.put_zone_line.Goals as goal

pub read-line-requires : goal.read-line-requires
read-line-requires c = (c.requires.0, refl, zone_label)

pub put_authority-used-requires : goal.put_authority-used-requires
put_authority-used-requires c = search zone_line_laws

pub slice_bounds-put_server-end : goal.slice_bounds-put_server-end
slice_bounds-put_server-end c = search zone_line_laws

pub put_server-requires : goal.put_server-requires
put_server-requires c = search zone_line_laws

pub returns : goal.returns
returns c =
    zone_put _ _ _ _ _ _ _ _ c.read-line.ensures c.requires.1 c.put_authority-used.ensures c.put_server.ensures
