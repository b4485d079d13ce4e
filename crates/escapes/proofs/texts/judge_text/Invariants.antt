use Rattle.std.proofs.Common.{length}
use Rattle.escapes.proofs.TextCount.{Counted}
use Rattle.escapes.proofs.texts.judge_text.Given as goal

abbrev pub invariant-loop-left : goal.invariant-loop-left
invariant-loop-left l = Counted l.text l.left l.count

abbrev pub decreases-loop-left : goal.decreases-loop-left
decreases-loop-left l = length l.left
