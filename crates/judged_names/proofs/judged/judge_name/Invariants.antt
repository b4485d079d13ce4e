use Prim.Native.Nat.{◌+◌, ◌≤◌}
use Rattle.judged_names.proofs.Name.{Going}
use Rattle.judged_names.proofs.judged.judge_name.Given as goal

abbrev pub invariant-loop-place : goal.invariant-loop-place
invariant-loop-place l = (l.closed + l.begun ≤ l.place) × Going l.text l.closed l.begun l.place
