use Rattle.joined.proofs.Joining.{judged_size}
use Rattle.joined.proofs.joined.name_size.Goals as goal

pub returns : goal.returns
returns c = judged_size _ _ _ c.judge_name.ensures c.unwrap_or.ensures
