use Rattle.rules.specs.Lists.{le}
use Rattle.integers.proofs.Sequences.{Placed}
use Rattle.integers.proofs.integers.put_each_le.Given as goal

abbrev pub invariant-loop-n : goal.invariant-loop-n
invariant-loop-n l = Placed (le l.width) l.width l.numbers l.initial.out l.out l.n-index l.used
