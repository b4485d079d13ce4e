use Rattle.rules.specs.Lists.{be}
use Rattle.integers.proofs.Sequences.{Placed}
use Rattle.integers.proofs.integers.put_each_be.Given as goal

abbrev pub invariant-loop-n : goal.invariant-loop-n
invariant-loop-n g l = Placed (λ n. be g.row.WIDTH (g.N.Number.value n)) g.row.WIDTH l.numbers l.initial.out l.out l.n-index l.used
