use Rattle.reader.proofs.Asking.{refused_laws}
use Rattle.reader.proofs.refused.Goals as goal

pub returns : goal.returns
returns c = search refused_laws
