use mathlib.Core.List.{append_assoc, append-nil}
use Rattle.rules.specs.Lists.{join_all}
use Rattle.rules.specs.Records.{srv_data}
use Rattle.buffer.proofs.Puts.{then_is}
use Rattle.srv.proofs.srv.put_srv_data.Goals as goal

pub returns-clause-put : goal.returns-clause-put
unfolding join_all srv_data
returns-clause-put c = then_is _ _ _ _ c.put_each_be-used.ensures.put _ _ _ _ c.put_bytes.ensures.put (simp (append_assoc, append-nil))
