use Rattle.std.proofs.Common.{◌∙◌, ap}
use Rattle.std.specs.Result.{result_ok}
use Rattle.rules.specs.declared.faults.FieldKind.{FieldKind}
use Rattle.rules.specs.Names.{name_of}
use Rattle.rules.specs.Fields.{unless}
use Rattle.fields.proofs.FieldFault.{name_is}
use Rattle.fields.proofs.faults.name_fault.Goals as goal

pub returns : goal.returns
returns c = c.unless.ensures ∙ ap (unless FieldKind.Name) c.ok.ensures.value ∙ ap (λ r. unless FieldKind.Name (result_ok r)) c.judge_name.ensures ∙ name_is (name_of c.args.text.now)
