use Rattle.std.proofs.Common.{◌∙◌}
use Rattle.pieces.proofs.Find.{any_has}
use Rattle.pieces.proofs.pieces.has_byte.Goals as goal

pub returns : goal.returns
returns c = c.contains.ensures.value ∙ any_has c.args.b c.args.text.now
