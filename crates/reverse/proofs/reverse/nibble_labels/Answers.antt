use Rattle.reverse.proofs.Labels.{label_laws}
use Rattle.reverse.proofs.reverse.nibble_labels.Goals as goal

pub returns : goal.returns
returns c = search label_laws
