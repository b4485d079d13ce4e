use Rattle.wire.proofs.Steps.{tests}
use Rattle.rules.specs.Lists.{pick}
use Rattle.rules.specs.Records.{hex_digit}
use Rattle.reverse.proofs.reverse.hex_digit.Goals as goal

pub returns-then-n-gt9 : goal.returns-then-n-gt9
unfolding hex_digit pick
returns-then-n-gt9 c = search tests

pub returns : goal.returns
unfolding hex_digit pick
returns c = search tests
