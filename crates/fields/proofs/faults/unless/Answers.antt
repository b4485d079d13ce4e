use Rattle.fields.proofs.FieldFault.{some, none}
use Rattle.fields.proofs.faults.unless.Goals as goal
use Rattle.fields.proofs.faults.unless.Goals.{in-Some, in-None}

pub returns : goal.returns
returns g c = elim c.match-read.branch [ in-Some w ↦ some _ _ _ _ w.in-Some.is w.result-is | in-None w ↦ none _ _ _ w.in-None.is w.result-is ]
