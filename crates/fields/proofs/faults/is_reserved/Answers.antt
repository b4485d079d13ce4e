use Rattle.rules.specs.Lists.{has}
use Rattle.rules.specs.Fields.{reserved}
use Rattle.fields.proofs.faults.is_reserved.Goals as goal

pub returns : goal.returns
unfolding reserved has
returns c = c.contains.ensures.value
