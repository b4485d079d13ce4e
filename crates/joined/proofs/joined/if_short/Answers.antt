use borrow.Author.Rules.{rules}
use Rattle.joined.proofs.Joining.{short, long}
use Rattle.joined.proofs.joined.if_short.Goals as goal

pub returns-then-size-le255 : goal.returns-then-size-le255
returns-then-size-le255 c = search (short, long, rules)

pub returns-else-size-le255 : goal.returns-else-size-le255
returns-else-size-le255 c = search (short, long, rules)
