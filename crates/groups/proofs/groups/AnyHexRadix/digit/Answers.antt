use Rattle.std.proofs.Common.{◌∙◌, ap}
use Rattle.digits.specs.Digits.{hex_of}
use Rattle.groups.specs.Groups.{any_hex_of}
use Rattle.groups.proofs.groups.AnyHexRadix.digit.Goals as goal

pub returns : goal.returns
unfolding any_hex_of
returns c = c.hex_digit.ensures ∙ ap hex_of c.lowered.ensures
