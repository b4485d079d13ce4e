use Rattle.std.specs.Iterator.Adapters.{enumerate_source, enumerate_count}
use lib.ListN.{length}
use mathlib.Core.Path.{◌≡◌}
use Rattle.rules.specs.Kinds.{lines_of}
use Rattle.compiler.proofs.Judging.{Judging}
use Rattle.compiler.proofs.judge.judge.Given as goal

abbrev pub invariant-loop-i : goal.invariant-loop-i
invariant-loop-i l =
    (goal.iterator-loop-i).can_next l.i-iterator
    × (goal.iterator-loop-i).is_finite l.i-iterator
    × (length l.scratch ≡ 16384)
    × Judging l.serial l.source (lines_of (enumerate_source l.i-iterator).left.now) (enumerate_count l.i-iterator) l.total
