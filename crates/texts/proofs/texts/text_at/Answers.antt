use Rattle.texts.proofs.TextLines.{text_good, text_fits, text_held}
use native.Mathlib.Omega.{arith}
use Rattle.texts.proofs.texts.text_at.Goals as goal

pub put_text-len-requires : goal.put_text-len-requires
put_text-len-requires c =
    let text = c.field.ensures in
    (text_good _ _ text c.requires.2, text_fits _ _ text _ c.requires.1 (omega arith))

pub returns : goal.returns
returns c = text_held _ _ c.field.ensures _ _ _ _ c.put_text-len.ensures c.new.ensures
