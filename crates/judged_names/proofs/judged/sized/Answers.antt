use Rattle.rules.specs.Lists.{pick}
use Rattle.rules.specs.Names.{longest_name}
use Rattle.wire.proofs.Steps.{tests}
use Rattle.judged_names.specs.NameCounts.{judged_size}
use Rattle.judged_names.proofs.judged.sized.Goals as goal

pub returns-then-size-le255 : goal.returns-then-size-le255
unfolding judged_size longest_name pick
returns-then-size-le255 c = search tests

pub returns : goal.returns
unfolding judged_size longest_name pick
returns c = search tests
