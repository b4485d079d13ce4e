use Rattle.std.proofs.Common.{◌≡◌, ◌≤◌, length}
use Rattle.splits.proofs.Splitting.{Going}
use Rattle.splits.proofs.splits.splitter.split.Given as goal

abbrev pub invariant-loop-i : goal.invariant-loop-i
invariant-loop-i l =
    (l.start ≤ l.i) × (l.count ≤ l.most) × (l.most ≤ 11) × (length l.spans ≡ 11) × Going l.rest l.spans l.count l.start l.i
