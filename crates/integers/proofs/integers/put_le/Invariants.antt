use mathlib.Core.Path.{◌≡◌}
use mathlib.Core.List.{◌++◌}
use Prim.Native.Nat.{◌-◌}
use lib.ListN.{length, take}
use Rattle.rules.specs.Lists.{le}
use Rattle.integers.proofs.integers.put_le.Given as goal

abbrev pub invariant-loop-byte : goal.invariant-loop-byte
invariant-loop-byte l = (length l.byte-items ≡ l.width) × (take l.byte-index l.byte-items ++ le (l.width - l.byte-index) l.rest ≡ le l.width l.n)
