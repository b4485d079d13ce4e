use borrow.Author.Rules.{rules}
use Rattle.buffer.proofs.Puts.{then_is}
use Rattle.heads.proofs.Whole.{record_is}
use Rattle.srv.proofs.SrvData.{srv_length}
use Rattle.srv.proofs.srv.put_srv.Goals as goal

pub returns : goal.returns
returns c = record { put = then_is _ _ _ _ c.put_head-used.ensures.put _ _ _ _ c.put_srv_data.ensures.put (record_is _ _ _ _ _ (srv_length _ _ _ _)); value = search rules }
