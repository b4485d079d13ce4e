use Rattle.heads.proofs.Head.{lo_laws}
use Rattle.heads.proofs.heads.lo_size.Goals as goal

pub enum_told-1 : goal.enum_told-1
enum_told-1 c = search lo_laws

pub enum_told-in-Code : goal.enum_told-in-Code
enum_told-in-Code c = search lo_laws

pub returns-in-Every : goal.returns-in-Every
returns-in-Every c = search lo_laws

pub returns-in-Code : goal.returns-in-Code
returns-in-Code c = search lo_laws
