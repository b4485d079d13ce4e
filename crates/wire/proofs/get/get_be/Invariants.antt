use Prim.Native.Nat.{◌^◌, ◌<◌}
use mathlib.Core.Path.{◌≡◌}
use lib.ListN.{drop}
use Rattle.rules.specs.Lists.{from_be}
use Rattle.wire.proofs.get.get_be.Given as goal

abbrev pub invariant-loop-b : goal.invariant-loop-b
invariant-loop-b l = (l.number < 256 ^ l.b-index) × (from_be l.number (drop l.b-index l.bytes) ≡ from_be 0 l.bytes)
