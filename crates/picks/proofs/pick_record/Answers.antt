use mathlib.Core.Path.{refl}
use Rattle.picks.proofs.Picking.{pick_laws}
use Rattle.picks.proofs.pick_record.Goals as goal

pub loop-at-init : goal.loop-at-init
loop-at-init c =
    (c.requires.from_in_bounds, c.requires.stream_value, refl)

pub span_at-start-requires : goal.span_at-start-requires
span_at-start-requires c = search pick_laws

pub slice_bounds-is_end-count : goal.slice_bounds-is_end-count
slice_bounds-is_end-count c = search pick_laws

pub slice_bounds-is_end-start : goal.slice_bounds-is_end-start
slice_bounds-is_end-start c = search pick_laws

pub slice_bounds-is_end-end : goal.slice_bounds-is_end-end
slice_bounds-is_end-end c = search pick_laws

pub is_end-requires : goal.is_end-requires
is_end-requires c = search pick_laws

pub loop-at-smaller-then-not-is_end : goal.loop-at-smaller-then-not-is_end
loop-at-smaller-then-not-is_end c = search pick_laws

pub loop-at-preserved-then-not-is_end : goal.loop-at-preserved-then-not-is_end
loop-at-preserved-then-not-is_end c = search pick_laws

pub slice_bounds-is_wanted-count : goal.slice_bounds-is_wanted-count
slice_bounds-is_wanted-count c = search pick_laws

pub slice_bounds-is_wanted-start : goal.slice_bounds-is_wanted-start
slice_bounds-is_wanted-start c = search pick_laws

pub slice_bounds-is_wanted-end : goal.slice_bounds-is_wanted-end
slice_bounds-is_wanted-end c = search pick_laws

pub slice_bounds-is_wanted-count-else-not-is_end : goal.slice_bounds-is_wanted-count-else-not-is_end
slice_bounds-is_wanted-count-else-not-is_end c = search pick_laws

pub slice_bounds-is_wanted-start-else-not-is_end : goal.slice_bounds-is_wanted-start-else-not-is_end
slice_bounds-is_wanted-start-else-not-is_end c = search pick_laws

pub slice_bounds-is_wanted-end-else-not-is_end : goal.slice_bounds-is_wanted-end-else-not-is_end
slice_bounds-is_wanted-end-else-not-is_end c = search pick_laws

pub is_wanted-requires : goal.is_wanted-requires
is_wanted-requires c = search pick_laws

pub slice_bounds-reply_in-count : goal.slice_bounds-reply_in-count
slice_bounds-reply_in-count c = search pick_laws

pub slice_bounds-reply_in-start : goal.slice_bounds-reply_in-start
slice_bounds-reply_in-start c = search pick_laws

pub slice_bounds-reply_in-end : goal.slice_bounds-reply_in-end
slice_bounds-reply_in-end c = search pick_laws

pub slice_bounds-reply_in-count-then-left-eq0 : goal.slice_bounds-reply_in-count-then-left-eq0
slice_bounds-reply_in-count-then-left-eq0 c = search pick_laws

pub slice_bounds-reply_in-start-then-left-eq0 : goal.slice_bounds-reply_in-start-then-left-eq0
slice_bounds-reply_in-start-then-left-eq0 c = search pick_laws

pub slice_bounds-reply_in-end-then-left-eq0 : goal.slice_bounds-reply_in-end-then-left-eq0
slice_bounds-reply_in-end-then-left-eq0 c = search pick_laws

pub reply_in-requires : goal.reply_in-requires
reply_in-requires c = search pick_laws

pub returns-then-left-eq0 : goal.returns-then-left-eq0
returns-then-left-eq0 c = search pick_laws

pub overflow_sub-left : goal.overflow_sub-left
overflow_sub-left c = search pick_laws

pub loop-at-smaller-then-is_wanted : goal.loop-at-smaller-then-is_wanted
loop-at-smaller-then-is_wanted c = search pick_laws

pub loop-at-preserved-then-is_wanted : goal.loop-at-preserved-then-is_wanted
loop-at-preserved-then-is_wanted c = search pick_laws

pub loop-at-smaller : goal.loop-at-smaller
loop-at-smaller c = search pick_laws

pub loop-at-preserved : goal.loop-at-preserved
loop-at-preserved c = search pick_laws

pub returns : goal.returns
returns c = search pick_laws
