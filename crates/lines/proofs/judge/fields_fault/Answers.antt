use Rattle.lines.proofs.Judging.{fields_laws}
use Rattle.lines.proofs.judge.fields_fault.Goals as goal

pub loop-i-init : goal.loop-i-init
loop-i-init c = search fields_laws

pub loop-i-preserved : goal.loop-i-preserved
loop-i-preserved c = search fields_laws

pub returns-then-ne : goal.returns-then-ne
returns-then-ne c = search fields_laws

pub returns : goal.returns
returns c = search fields_laws
