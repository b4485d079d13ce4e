use Rattle.std.proofs.Common.{◌∙◌, ap, sym, length}
use Rattle.rules.specs.declared.faults.FieldKind.{FieldKind}
use Rattle.rules.specs.Fields.{unless, text_of}
use Rattle.fields.proofs.FieldFault.{unless_map}
use Rattle.fields.proofs.faults.text_fault.Goals as goal

pub returns : goal.returns
returns c = c.unless.ensures ∙ ap (unless FieldKind.Escape) c.judge_text.ensures ∙ sym (unless_map length FieldKind.Escape (text_of c.args.text.now))
