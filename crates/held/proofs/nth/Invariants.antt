use mathlib.Core.Path.{◌≡◌}
use Prim.Native.Nat.{◌-◌}
use Rattle.held.specs.Nth.{found_from}
use Rattle.held.proofs.nth.Given as goal

abbrev pub invariant-loop : goal.invariant-loop
invariant-loop l = found_from (l.number - l.counter) l.bytes l.at ≡ found_from l.number l.bytes 0
