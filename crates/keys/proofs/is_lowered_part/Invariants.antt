use mathlib.Core.Path.{◌≡◌}
use mathlib.Core.Bool.{◌&&◌}
use lib.ListN.{drop}
use Rattle.rules.specs.Reading.{lowered}
use Rattle.keys.proofs.is_lowered_part.Given as goal

abbrev pub invariant-loop-b : goal.invariant-loop-b
invariant-loop-b l = (l.low && lowered (drop l.b-index l.part)) ≡ lowered l.part
