use Rattle.compiler.proofs.Judging.{size_laws}
use Rattle.compiler.proofs.judge.size_line.Goals as goal

pub put_line-requires : goal.put_line-requires
put_line-requires c = search size_laws

pub returns-in-Done : goal.returns-in-Done
returns-in-Done c = search size_laws

pub returns-in_default : goal.returns-in_default
returns-in_default c = search size_laws
