use borrow.Author.Rules.{rules}
use Rattle.buffer.proofs.Puts.{copied_more, copied_all}
use Rattle.buffer.proofs.put.put_bytes.Goals as goal

pub loop-i-preserved : goal.loop-i-preserved
loop-i-preserved c = search (rules, copied_more)

pub returns-clause-put : goal.returns-clause-put
returns-clause-put c = search (rules, copied_all)
