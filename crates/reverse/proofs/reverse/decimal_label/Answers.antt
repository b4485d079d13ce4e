use Rattle.reverse.proofs.Labels.{label_laws}
use Rattle.reverse.proofs.reverse.decimal_label.Goals as goal

pub returns-then-n-gt99 : goal.returns-then-n-gt99
returns-then-n-gt99 c = search label_laws

pub returns-then-n-gt9 : goal.returns-then-n-gt9
returns-then-n-gt9 c = search label_laws

pub returns : goal.returns
returns c = search label_laws
