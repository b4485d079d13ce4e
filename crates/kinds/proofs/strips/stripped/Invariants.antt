use lib.ListN.{length}
use Rattle.kinds.proofs.Stripping.{Left}
use Rattle.kinds.proofs.strips.stripped.Given as goal

abbrev pub invariant-loop-left : goal.invariant-loop-left
invariant-loop-left l = Left l.line l.left

abbrev pub decreases-loop-left : goal.decreases-loop-left
decreases-loop-left l = length l.left
