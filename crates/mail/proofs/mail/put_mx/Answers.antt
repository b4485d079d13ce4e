use borrow.Author.Rules.{rules}
use Rattle.buffer.proofs.Puts.{then_two}
use Rattle.mail.proofs.Exchanger.{mx_is}
use Rattle.mail.proofs.mail.put_mx.Goals as goal

pub returns : goal.returns
returns c = record { put = then_two _ _ _ _ c.put_head-a.ensures.put _ _ _ c.put_be.ensures.put _ _ _ _ c.put_bytes.ensures.put (mx_is _ _ _ _); value = search rules }
