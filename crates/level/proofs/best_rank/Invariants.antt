use Prim.Native.Nat.{◌-◌, ◌≤◌, max}
use mathlib.Core.Path.{◌≡◌}
use mathlib.Core.List.{[], map}
use lib.ListN.{length, drop}
use Rattle.rules.specs.Records.{lo_bytes}
use Rattle.rules.specs.Reading.{decode}
use mathlib.Core.Bool.{true}
use Rattle.rules.specs.Lists.{lower, is_some, value_or}
use Rattle.ranks.specs.Ranks.{largest, seen_rank}
use Rattle.level.proofs.best_rank.Given as goal

abbrev pub invariant-loop-at : goal.invariant-loop-at
invariant-loop-at l = (l.at ≤ length l.stream) × (is_some (decode (drop l.at l.stream)) ≡ true)
    × (max l.best (largest (seen_rank l.role (map lower l.name) (lo_bytes l.here) l.moment.0) (value_or [] (decode (drop l.at l.stream)))) ≡ largest (seen_rank l.role (map lower l.name) (lo_bytes l.here) l.moment.0) (value_or [] (decode (drop l.from l.stream))))

abbrev pub decreases-loop-at : goal.decreases-loop-at
decreases-loop-at l = length l.stream - l.at
