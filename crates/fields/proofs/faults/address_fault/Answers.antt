use Rattle.std.proofs.Common.{◌∙◌, ap}
use Rattle.rules.specs.declared.faults.FieldKind.{FieldKind}
use Rattle.rules.specs.Fields.{unless}
use Rattle.addresses.specs.Address.{address_bytes}
use Rattle.fields.proofs.FieldFault.{unless_map}
use Rattle.fields.proofs.faults.address_fault.Goals as goal

pub returns : goal.returns
returns c = c.unless.ensures ∙ unless_map address_bytes FieldKind.Address c.address.result ∙ ap (unless FieldKind.Address) c.address.ensures
