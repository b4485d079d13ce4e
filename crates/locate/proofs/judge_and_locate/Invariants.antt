use Prim.Native.Nat.{◌-◌}
use mathlib.Core.List.{map}
use lib.ListN.{length}
use Rattle.rules.specs.Lists.{lower}
use Rattle.locate.proofs.Locating.{Going}
use Rattle.locate.proofs.judge_and_locate.Given as goal

abbrev pub invariant-loop-stop : goal.invariant-loop-stop
invariant-loop-stop l = Going l.client (map lower l.name) l.stream l.located l.level l.control l.at

abbrev pub decreases-loop-stop : goal.decreases-loop-stop
decreases-loop-stop l = length l.stream - l.at
