use Rattle.std.proofs.Common.{length, ◌≡◌}
use Rattle.hexadecimal.proofs.Digits.{Done}
use Rattle.hexadecimal.proofs.hex.put_digits.Given as goal

abbrev pub invariant-loop-i : goal.invariant-loop-i
invariant-loop-i l = (length l.room ≡ 512) × Done l.bytes l.room l.i
