use Prim.Native.Nat.{◌≤◌}
use mathlib.Core.Path.{◌≡◌}
use lib.ListN.{length}
use Rattle.related.proofs.Lengths.{LengthsFrom}
use Rattle.related.proofs.lengths_of.Given as goal

abbrev pub invariant-loop-label : goal.invariant-loop-label
invariant-loop-label l = (length l.rest ≤ 255) × (length l.lengths ≡ 256) × LengthsFrom l.lengths l.rest l.name

abbrev pub decreases-loop-label : goal.decreases-loop-label
decreases-loop-label l = length l.rest
