use Rattle.reverse.proofs.Reversed.{Putting}
use Rattle.reverse.proofs.reverse.put_labels.Given as goal

abbrev pub invariant-loop-b : goal.invariant-loop-b
invariant-loop-b g l = Putting (goal.F-post g l.labels_of) l.address l.initial.out l.out l.used l.b-iterator.iter.rest.now
