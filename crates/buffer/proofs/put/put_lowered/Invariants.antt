use Rattle.rules.specs.Lists.{lower}
use Rattle.buffer.proofs.Puts.{Mapped}
use Rattle.buffer.proofs.put.put_lowered.Given as goal

abbrev pub invariant-loop-i : goal.invariant-loop-i
invariant-loop-i l = Mapped lower l.source l.initial.out l.out l.i
