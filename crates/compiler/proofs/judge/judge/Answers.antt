use mathlib.Core.Path.{refl}
use mathlib.Core.Logic.{inl}
use native.Mathlib.Omega.{arith}
use Rattle.compiler.proofs.Lines.{lines_few}
use Rattle.compiler.proofs.Judging.{judge_laws, begin_judging, bad_line}
use Rattle.compiler.proofs.judge.judge.Goals as goal

-- no more lines are counted than there are bytes
pub loop-i-init : goal.loop-i-init
loop-i-init c =
    rw (c.into_iter-i-iterator.ensures.into_iter_gives, c.enumerate-i-items.ensures.count, c.enumerate-i-items.ensures.source, c.new.ensures)
    ((tt, tt, inl (omega (arith, lines_few c.args.source.now))), tt, search judge_laws, begin_judging _ _ _ refl)

pub loop-i-preserved : goal.loop-i-preserved
loop-i-preserved c = search judge_laws

pub returns-in-Err : goal.returns-in-Err
returns-in-Err c =
    bad_line _ _ _ _ _ c.loop-i.invariant.3 _ _ c.in-Some.ensures.steps.0 _ c.in-Some.ensures.steps.1 _ c.in-Err.ensures

pub returns : goal.returns
returns c = search judge_laws
