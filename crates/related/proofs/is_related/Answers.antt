use Rattle.related.proofs.Related.{related_laws}
use Rattle.related.proofs.is_related.Goals as goal

pub returns-then-name-n : goal.returns-then-name-n
returns-then-name-n c = search related_laws

pub bounds-lengths-n : goal.bounds-lengths-n
bounds-lengths-n c = search related_laws

pub returns-then-not-lengths-n : goal.returns-then-not-lengths-n
returns-then-not-lengths-n c = search related_laws

pub overflow_sub-front : goal.overflow_sub-front
overflow_sub-front c = search related_laws

pub slice_bounds-compare-count : goal.slice_bounds-compare-count
slice_bounds-compare-count c = search related_laws

pub slice_bounds-compare-start : goal.slice_bounds-compare-start
slice_bounds-compare-start c = search related_laws

pub slice_bounds-compare-end : goal.slice_bounds-compare-end
slice_bounds-compare-end c = search related_laws

pub compare-said-requires : goal.compare-said-requires
compare-said-requires c = search related_laws

pub returns : goal.returns
returns c = search related_laws
