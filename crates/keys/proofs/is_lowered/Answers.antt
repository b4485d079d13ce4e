use Rattle.keys.proofs.Lowered.{lowered_laws}
use Rattle.keys.proofs.is_lowered.Goals as goal

pub is_lowered_part-requires : goal.is_lowered_part-requires
is_lowered_part-requires c = search lowered_laws

pub returns-then-n-lt16 : goal.returns-then-n-lt16
returns-then-n-lt16 c = search lowered_laws

pub loop-i-init : goal.loop-i-init
loop-i-init c = search lowered_laws

pub overflow_sub-n : goal.overflow_sub-n
overflow_sub-n c = search lowered_laws

pub overflow_add-next : goal.overflow_add-next
overflow_add-next c = search lowered_laws

pub slice_bounds-is_lowered_part-count : goal.slice_bounds-is_lowered_part-count
slice_bounds-is_lowered_part-count c = search lowered_laws

pub is_lowered_part-requires-in-loop-i : goal.is_lowered_part-requires-in-loop-i
is_lowered_part-requires-in-loop-i c = search lowered_laws

pub returns-then-not-is_lowered_part : goal.returns-then-not-is_lowered_part
returns-then-not-is_lowered_part c = search lowered_laws

pub loop-i-smaller : goal.loop-i-smaller
loop-i-smaller c = search lowered_laws

pub loop-i-preserved : goal.loop-i-preserved
loop-i-preserved c = search lowered_laws

pub slice_bounds-is_lowered_part-count-2 : goal.slice_bounds-is_lowered_part-count-2
slice_bounds-is_lowered_part-count-2 c = search lowered_laws

pub is_lowered_part-requires-2 : goal.is_lowered_part-requires-2
is_lowered_part-requires-2 c = search lowered_laws

pub returns : goal.returns
returns c = search lowered_laws
