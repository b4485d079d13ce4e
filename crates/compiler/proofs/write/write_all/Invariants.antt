use Rattle.rules.specs.Kinds.{lines_of}
use Rattle.compiler.proofs.Writing.{Writing}
use Rattle.compiler.proofs.write.write_all.Given as goal

abbrev pub invariant-loop-line : goal.invariant-loop-line
invariant-loop-line l =
    (goal.iterator-loop-line).can_next l.line-iterator
    × (goal.iterator-loop-line).is_finite l.line-iterator
    × Writing l.serial l.source l.initial.out l.out l.used (lines_of l.line-iterator.left.now)
