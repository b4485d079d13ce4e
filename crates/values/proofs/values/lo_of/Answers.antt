use Rattle.values.proofs.Valuing.{lo_is}
use Rattle.values.proofs.values.lo_of.Goals as goal

pub returns : goal.returns
returns c = lo_is _ _ _ c.lo.ensures c.unwrap_or.ensures
