use Rattle.level.proofs.Bests.{most, best_laws}
use Rattle.level.proofs.Bests.{best_laws}
use Rattle.level.proofs.best_rank.Goals as goal

pub loop-at-init : goal.loop-at-init
loop-at-init c = search best_laws

pub returns-then-best-eq256 : goal.returns-then-best-eq256
returns-then-best-eq256 c =
    most _ _ _ _ c.args.stream.now _ c.loop-at.at _ c.requires.name_value c.loop-at.invariant.2 c.if-best-eq256.true

pub span_at-start-requires : goal.span_at-start-requires
span_at-start-requires c = search best_laws

pub slice_bounds-is_end-count : goal.slice_bounds-is_end-count
slice_bounds-is_end-count c = search best_laws

pub slice_bounds-is_end-start : goal.slice_bounds-is_end-start
slice_bounds-is_end-start c = search best_laws

pub slice_bounds-is_end-end : goal.slice_bounds-is_end-end
slice_bounds-is_end-end c = search best_laws

pub is_end-requires : goal.is_end-requires
is_end-requires c = search best_laws

pub loop-at-smaller-then-not-is_end : goal.loop-at-smaller-then-not-is_end
loop-at-smaller-then-not-is_end c = search best_laws

pub loop-at-preserved-then-not-is_end : goal.loop-at-preserved-then-not-is_end
loop-at-preserved-then-not-is_end c = search best_laws

pub slice_bounds-rank_in-count : goal.slice_bounds-rank_in-count
slice_bounds-rank_in-count c = search best_laws

pub slice_bounds-rank_in-start : goal.slice_bounds-rank_in-start
slice_bounds-rank_in-start c = search best_laws

pub slice_bounds-rank_in-end : goal.slice_bounds-rank_in-end
slice_bounds-rank_in-end c = search best_laws

pub slice_bounds-rank_in-count-else-not-is_end : goal.slice_bounds-rank_in-count-else-not-is_end
slice_bounds-rank_in-count-else-not-is_end c = search best_laws

pub slice_bounds-rank_in-start-else-not-is_end : goal.slice_bounds-rank_in-start-else-not-is_end
slice_bounds-rank_in-start-else-not-is_end c = search best_laws

pub slice_bounds-rank_in-end-else-not-is_end : goal.slice_bounds-rank_in-end-else-not-is_end
slice_bounds-rank_in-end-else-not-is_end c = search best_laws

pub rank_in-found-requires : goal.rank_in-found-requires
rank_in-found-requires c = search best_laws

pub loop-at-smaller-then-best-found : goal.loop-at-smaller-then-best-found
loop-at-smaller-then-best-found c = search best_laws

pub loop-at-preserved-then-best-found : goal.loop-at-preserved-then-best-found
loop-at-preserved-then-best-found c = search best_laws

pub loop-at-smaller : goal.loop-at-smaller
loop-at-smaller c = search best_laws

pub loop-at-preserved : goal.loop-at-preserved
loop-at-preserved c = search best_laws

pub returns : goal.returns
returns c = search best_laws
