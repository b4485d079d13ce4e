use borrow.Author.Rules.{rules}
use Rattle.buffer.proofs.Puts.{then_is}
use Rattle.heads.proofs.Whole.{record_is}
use Rattle.soa.proofs.SoaData.{soa_length}
use Rattle.soa.proofs.soa.put_soa.Goals as goal

pub returns : goal.returns
returns c = record { put = then_is _ _ _ _ c.put_head-used.ensures.put _ _ _ _ c.put_soa_data.ensures.put (record_is _ _ _ _ _ (soa_length _ _ _ _ _ _ _)); value = search rules }
