use Rattle.heads.proofs.Head.{lo_laws}
use Rattle.heads.proofs.heads.put_lo.Goals as goal

pub enum_told-1 : goal.enum_told-1
enum_told-1 c = search lo_laws

pub enum_known-lo : goal.enum_known-lo
enum_known-lo c = search lo_laws

pub slice_bounds-put_bytes-end : goal.slice_bounds-put_bytes-end
slice_bounds-put_bytes-end c = search lo_laws

pub put_bytes-requires : goal.put_bytes-requires
put_bytes-requires c = search lo_laws

pub returns-in-Every : goal.returns-in-Every
returns-in-Every c = search lo_laws

pub shape_of-out : goal.shape_of-out
shape_of-out c = search lo_laws

pub returns-in-Code : goal.returns-in-Code
returns-in-Code c = search lo_laws
