use mathlib.Core.Path.{refl, ◌∙◌}
use Rattle.wire.proofs.Numbers.{le_four}
use Rattle.wire.proofs.get.get_le.Goals as goal

pub returns : goal.returns
returns c = c.from.ensures ∙ c.from_le_bytes-number.ensures ∙ le_four c.args.bytes.now _ _ _ _ c.requires refl refl refl refl
