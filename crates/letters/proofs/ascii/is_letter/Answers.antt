use Rattle.rules.specs.Fields.{letter}
use Rattle.letters.proofs.ascii.is_letter.Goals as goal

pub returns : goal.returns
unfolding letter
returns c = c.is_ascii_alphabetic.ensures.value
