use Rattle.values.proofs.Valuing.{value_laws}
use Rattle.values.proofs.values.ttl_at.Goals as goal

pub returns : goal.returns
returns c = search value_laws
