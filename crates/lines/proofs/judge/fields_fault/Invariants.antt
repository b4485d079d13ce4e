use Rattle.splits.specs.Texts.{fields_of}
use Rattle.lines.proofs.Judging.{Going}
use Rattle.lines.proofs.judge.fields_fault.Given as goal

abbrev pub invariant-loop-i : goal.invariant-loop-i
invariant-loop-i l = Going l.meanings (fields_of l.fields) l.i
