use Prim.Native.Nat.{◌-◌, ◌≤◌}
use mathlib.Core.Path.{◌≡◌}
use mathlib.Core.List.{[], map}
use lib.ListN.{length, drop}
use Rattle.rules.specs.Records.{lo_bytes}
use Rattle.rules.specs.Reading.{decode}
use mathlib.Core.Bool.{true}
use Rattle.rules.specs.Lists.{lower, is_some, value_or}
use Rattle.picks.specs.Picks.{picked_from}
use Rattle.picks.proofs.pick_record.Given as goal

abbrev pub invariant-loop-at : goal.invariant-loop-at
invariant-loop-at l = (l.at ≤ length l.stream) × (is_some (decode (drop l.at l.stream)) ≡ true)
    × (picked_from l.qtype l.role (map lower l.name) (lo_bytes l.here) l.moment.0 l.best l.at l.left (value_or [] (decode (drop l.at l.stream)))
    ≡ picked_from l.qtype l.role (map lower l.name) (lo_bytes l.here) l.moment.0 l.best l.from l.ordinal (value_or [] (decode (drop l.from l.stream))))

abbrev pub decreases-loop-at : goal.decreases-loop-at
decreases-loop-at l = length l.stream - l.at
