use Rattle.std.proofs.Common.{◌≤◌}
use Rattle.boundaries.proofs.main.Given as goal

abbrev pub invariant-loop-i : goal.invariant-loop-i
invariant-loop-i l = l.room ≤ 65536
