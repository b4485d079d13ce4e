use Rattle.values.proofs.Valuing.{number_is}
use Rattle.values.proofs.values.number_or.Goals as goal

pub returns : goal.returns
returns c = number_is _ _ _ _ _ c.number.ensures c.unwrap_or.ensures c.requires
