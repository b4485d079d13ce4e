use Rattle.fields.proofs.FieldFault.{fault_laws}
use Rattle.fields.proofs.faults.when_needed.Goals as goal

pub returns-then-text-eq0 : goal.returns-then-text-eq0
returns-then-text-eq0 c = search fault_laws

pub returns : goal.returns
returns c = search fault_laws
