use borrow.Author.Rules.{rules}
use Rattle.wire.proofs.Steps.{tests}
use Rattle.names.proofs.Cut.{first_left, next_part, last_part}
use Rattle.names.proofs.Wire.{begin, short, room, more, within, last_room, whole}
use Rattle.names.proofs.names.put_name.Goals as goal

pub loop-part-init : goal.loop-part-init
loop-part-init c =
    begin _ _ _ c.requires.0 c.requires.1 (first_left _ _ _ c.into_iter-part-iterator.ensures.into_iter_gives c.split-part-items.ensures.rest c.split-part-items.ensures.done)

pub slice_bounds-put_label-count : goal.slice_bounds-put_label-count
slice_bounds-put_label-count c = within _ _ _ _ _ c.loop-part.invariant

pub slice_bounds-put_label-start : goal.slice_bounds-put_label-start
slice_bounds-put_label-start c = search rules

pub put_label-used-requires : goal.put_label-used-requires
put_label-used-requires c =
    let w = next_part _ _ _ _ c.next.ensures.steps _ c.in-Some.is (λ b a f q. search (rules, tests)) in
    (short _ _ _ _ _ c.loop-part.invariant _ _ w, room _ _ _ _ _ c.loop-part.invariant _ _ w)

pub loop-part-preserved : goal.loop-part-preserved
loop-part-preserved c =
    let w = next_part _ _ _ _ c.next.ensures.steps _ c.in-Some.is (λ b a f q. search (rules, tests)) in
    more _ _ _ _ _ c.loop-part.invariant _ _ w _ _ c.put_label-used.ensures

pub bounds-out-used : goal.bounds-out-used
bounds-out-used c = last_room _ _ _ _ _ c.loop-part.invariant (last_part _ _ _ _ c.next.ensures.steps c.in-None.is)

pub returns : goal.returns
returns c = whole _ _ _ _ _ c.loop-part.invariant (last_part _ _ _ _ c.next.ensures.steps c.in-None.is)
