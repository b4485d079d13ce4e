use borrow.Author.Rules.{rules}
use Rattle.buffer.proofs.Puts.{then_is}
use Rattle.heads.proofs.Whole.{record_is}
use Rattle.txt.proofs.txt.put_text_record.Goals as goal

pub returns : goal.returns
returns c = record { put = then_is _ _ _ _ c.put_head-used.ensures.put _ _ _ _ c.put_chunks.ensures.put (record_is _ _ _ _ _ c.chunks_size.ensures); value = search rules }
