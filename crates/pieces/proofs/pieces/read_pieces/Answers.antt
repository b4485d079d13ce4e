use Rattle.std.proofs.Common.{◌∙◌, ◌<◌, length, arith}
use Rattle.std.proofs.lemmas.Grind.{common_steps}
use Rattle.std.proofs.lemmas.List.{take_more_set}
use Rattle.pieces.proofs.Read.{called, begin, full, bad, turn, end}
use Rattle.pieces.proofs.pieces.read_pieces.Goals as goal

pub loop-piece-init : goal.loop-piece-init
loop-piece-init g c =
    let e = c.into_iter-piece-iterator.ensures.into_iter_gives ∙ c.new-piece-items.ensures in
    (omega arith, λ f q. begin f _ _ e)

pub returns-then-count-out-clause-values : goal.returns-then-count-out-clause-values
returns-then-count-out-clause-values g c f q = full (c.loop-piece.invariant.1 f q) c.in-Some.piece.now _ _ c.in-Some.ensures.steps (grind (arith, common_steps))

pub returns-in_default-clause-values : goal.returns-in_default-clause-values
returns-in_default-clause-values g c f q = bad (c.loop-piece.invariant.1 f q) c.in-Some.piece.now _ _ c.in-Some.ensures.steps (called g.F.Fn c.args.read f q _ _ c.in_default.ensures)

pub loop-piece-preserved : goal.loop-piece-preserved
loop-piece-preserved g c =
    let n : c.loop-piece.count < length c.loop-piece.out = omega (arith, c.loop-piece.invariant.0) in (
      grind (arith, common_steps),
      λ f q. rw (take_more_set c.loop-piece.out c.loop-piece.count c.in-Some-read.value n) (turn (c.loop-piece.invariant.1 f q) c.in-Some.piece.now _ c.in-Some-read.value c.in-Some.ensures.steps (called g.F.Fn c.args.read f q _ _ c.in-Some-read.ensures)),
    )

pub returns-clause-values : goal.returns-clause-values
returns-clause-values g c f q = end (c.loop-piece.invariant.1 f q) _ c.in-None.ensures.steps.0 (grind (arith, common_steps))
