use Rattle.std.proofs.Common.{◌∙◌, ap}
use Rattle.rules.specs.declared.faults.FieldKind.{FieldKind}
use Rattle.rules.specs.declared.quantities.Moment.{Moment}
use Rattle.rules.specs.Fields.{unless}
use Rattle.fields.proofs.FieldFault.{unless_map}
use Rattle.fields.proofs.faults.time_fault.Goals as goal

pub returns : goal.returns
returns c = c.unless.ensures ∙ unless_map (λ (m : Moment). m.0) FieldKind.Time c.time.result ∙ ap (unless FieldKind.Time) c.time.ensures
