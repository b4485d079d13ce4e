use Rattle.pointers.proofs.Pointing.{pointer_points}
use Rattle.pointers.proofs.pointers.put_pointer_line.Goals as goal

pub put_target-requires : goal.put_target-requires
put_target-requires c = let start = c.requires in (start.0, pointer_points _ start.0, start.1)
