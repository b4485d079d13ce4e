use Rattle.values.proofs.Valuing.{time_is}
use Rattle.values.proofs.values.time_of.Goals as goal

pub returns : goal.returns
returns c = time_is _ _ _ c.time.ensures c.unwrap_or.ensures
