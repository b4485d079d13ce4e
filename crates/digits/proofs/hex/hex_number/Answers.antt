use Rattle.std.proofs.Common.{◌∙◌}
use Rattle.digits.proofs.Digit.{other_length, just_length}
use Rattle.digits.proofs.hex.hex_number.Goals as goal

pub returns-then-text : goal.returns-then-text
returns-then-text g c = other_length g.row.N c.args.text.now c.if-text.true

pub returns : goal.returns
returns g c = c.value.ensures ∙ just_length g.row.N c.args.text.now c.if-text.false
