use Rattle.std.proofs.Common.{length}
use Rattle.escapes.proofs.TextPut.{TextPut}
use Rattle.escapes.proofs.texts.put_text.Given as goal

abbrev pub invariant-loop-b : goal.invariant-loop-b
invariant-loop-b l = TextPut l.text l.initial.out l.out l.left l.used

abbrev pub decreases-loop-b : goal.decreases-loop-b
decreases-loop-b l = length l.left
