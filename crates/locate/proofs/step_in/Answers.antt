use mathlib.Core.Path.{ap}
use mathlib.Core.Bool.{not}
use Rattle.locate.proofs.Steps.{step_related, step_laws}
use Rattle.locate.proofs.step_in.Goals as goal

pub returns-in_err-lo : goal.returns-in_err-lo
returns-in_err-lo c = search step_laws

pub returns-then-not-is_end : goal.returns-then-not-is_end
returns-then-not-is_end c = search step_laws

pub type_in-requires : goal.type_in-requires
type_in-requires c = search step_laws

pub returns-in-Location : goal.returns-in-Location
returns-in-Location c = search step_laws

pub returns-else-not-is_end : goal.returns-else-not-is_end
returns-else-not-is_end c =
    step_related _ _ _ _ c.in_ok-lo.ensures.result_value _ _ _ _ c.in-Resource.is _ c.is_end.ensures _ _ c.type_in.ensures (ap not c.if-not-is_end.false) c.related_step.ensures
