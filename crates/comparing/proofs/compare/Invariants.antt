use mathlib.Core.Path.{◌≡◌}
use lib.ListN.{length, drop}
use Rattle.rules.specs.Comparing.{compared}
use Rattle.comparing.proofs.Pairs.{compared_from}
use Rattle.comparing.proofs.compare.Given as goal

abbrev pub invariant-loop-i : goal.invariant-loop-i
invariant-loop-i l = (length l.key ≡ length l.name)
    × (compared_from l.i (drop l.i l.key) (drop l.i l.name) ≡ compared l.key l.name)
