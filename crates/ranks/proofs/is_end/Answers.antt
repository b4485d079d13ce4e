use Rattle.ranks.proofs.Related.{end_laws}
use Rattle.ranks.proofs.is_end.Goals as goal

pub returns-then-n-key : goal.returns-then-n-key
returns-then-n-key c = search end_laws

pub returns-then-key-eq0 : goal.returns-then-key-eq0
returns-then-key-eq0 c = search end_laws

pub overflow_sub-front : goal.overflow_sub-front
overflow_sub-front c = search end_laws

pub bounds-key-0 : goal.bounds-key-0
bounds-key-0 c = search end_laws

pub bounds-name-front : goal.bounds-name-front
bounds-name-front c = search end_laws

pub returns-then-name-front : goal.returns-then-name-front
returns-then-name-front c = search end_laws

pub slice_bounds-same_lowered-count : goal.slice_bounds-same_lowered-count
slice_bounds-same_lowered-count c = search end_laws

pub slice_bounds-same_lowered-start : goal.slice_bounds-same_lowered-start
slice_bounds-same_lowered-start c = search end_laws

pub slice_bounds-same_lowered-end : goal.slice_bounds-same_lowered-end
slice_bounds-same_lowered-end c = search end_laws

pub same_lowered-requires : goal.same_lowered-requires
same_lowered-requires c = search end_laws

pub returns : goal.returns
returns c = search end_laws
