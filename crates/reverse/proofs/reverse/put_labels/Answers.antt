use borrow.Author.Rules.{rules}
use Rattle.reverse.proofs.Reversed.{first_rest, begin, within, room, more, all, few_put}
use Rattle.reverse.proofs.reverse.put_labels.Goals as goal

pub loop-b-init : goal.loop-b-init
loop-b-init g c = begin _ _ _ _ (first_rest _ _ _ _ c.into_iter-b-iterator.ensures.into_iter_gives c.rev-b-items.ensures.source c.iter.ensures.rest) c.requires.room

pub slice_bounds-put_bytes-count : goal.slice_bounds-put_bytes-count
slice_bounds-put_bytes-count g c = within _ _ _ _ _ _ c.loop-b.invariant

pub slice_bounds-put_bytes-start : goal.slice_bounds-put_bytes-start
slice_bounds-put_bytes-start g c = search rules

pub put_bytes-used-requires : goal.put_bytes-used-requires
put_bytes-used-requires g c = room _ _ _ _ _ _ c.loop-b.invariant _ _ c.in-Some.ensures.steps _ c.as_slice.ensures.len

pub loop-b-preserved : goal.loop-b-preserved
loop-b-preserved g c = more _ _ _ _ _ _ c.loop-b.invariant _ _ c.in-Some.ensures.steps _ c.as_slice.ensures.len _ _ _ c.labels_of.ensures c.as_slice.ensures.value c.put_bytes-used.ensures.put

pub returns-clause-put : goal.returns-clause-put
returns-clause-put g c f w = all _ _ _ _ _ _ c.loop-b.invariant f c.in-None.ensures.steps.0 w

pub returns-clause-upper_bound : goal.returns-clause-upper_bound
returns-clause-upper_bound g c = few_put _ _ _ _ _ _ c.loop-b.invariant
