use mathlib.Core.Path.{◌≡◌}
use mathlib.Core.List.{map}
use lib.ListN.{length, drop}
use Rattle.rules.specs.Lists.{lower, same_bytes}
use Rattle.ranks.proofs.same_lowered.Given as goal

abbrev pub invariant-loop-i : goal.invariant-loop-i
invariant-loop-i l = (length l.key ≡ length l.name) × (same_bytes (drop l.i l.key) (drop l.i (map lower l.name)) ≡ same_bytes l.key (map lower l.name))
