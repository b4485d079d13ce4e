use borrow.Author.Rules.{rules}
use Rattle.buffer.proofs.Puts.{then_two}
use Rattle.soa.proofs.SoaData.{soa_is}
use Rattle.soa.proofs.soa.put_soa_data.Goals as goal

pub returns : goal.returns
returns c = record { put = then_two _ _ _ _ c.put_bytes-a.ensures.put _ _ _ c.put_bytes.ensures.put _ _ _ _ c.put_soa_numbers.ensures.put (soa_is _ _ _ _ _ _ _); value = search rules }
