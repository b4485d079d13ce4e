use Rattle.buffer.proofs.Puts.{Copied}
use Rattle.buffer.proofs.put.put_bytes.Given as goal

abbrev pub invariant-loop-i : goal.invariant-loop-i
invariant-loop-i l = Copied l.source l.initial.out l.out l.i
