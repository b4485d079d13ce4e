use Rattle.locations.proofs.Locating.{prefix_there, location_room, location_put}
use Rattle.locations.proofs.locations.put_location_line.Goals as goal

pub unwrap-prefix-requires : goal.unwrap-prefix-requires
unwrap-prefix-requires c = prefix_there _ _ _ c.requires.0 c.field.ensures c.prefix.ensures

pub put_location-requires : goal.put_location-requires
put_location-requires c =
    location_room _ _ _ _ _ _ c.lo_at-lo.ensures c.field.ensures c.prefix.ensures c.unwrap-prefix.ensures c.as_slice.ensures.value _ c.requires.1

pub returns : goal.returns
returns c =
    location_put _ _ _ _ _ _ c.lo_at-lo.ensures c.field.ensures c.prefix.ensures c.unwrap-prefix.ensures c.as_slice.ensures.value _ _ _ c.put_location.ensures.put
