use borrow.Author.Rules.{rules}
use Rattle.rules.specs.Lists.{lower}
use Rattle.buffer.proofs.Puts.{mapped_more, mapped_all}
use Rattle.buffer.proofs.put.put_lowered.Goals as goal

pub loop-i-preserved : goal.loop-i-preserved
loop-i-preserved c = search (rules, mapped_more lower)

pub returns-clause-put : goal.returns-clause-put
returns-clause-put c = search (rules, mapped_all lower)
