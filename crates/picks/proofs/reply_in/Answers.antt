use Rattle.picks.proofs.Picking.{reply_laws}
use Rattle.picks.proofs.reply_in.Goals as goal

pub known_in-requires : goal.known_in-requires
known_in-requires c = search reply_laws

pub overflow_sub-length : goal.overflow_sub-length
overflow_sub-length c = search reply_laws

pub overflow_sub-place : goal.overflow_sub-place
overflow_sub-place c = search reply_laws

pub lifetime-seconds-requires : goal.lifetime-seconds-requires
lifetime-seconds-requires c = search reply_laws

pub returns-in-Location : goal.returns-in-Location
returns-in-Location c = search reply_laws

pub returns-in-Resource : goal.returns-in-Resource
returns-in-Resource c = search reply_laws
