use Rattle.letters.proofs.Tables.{lowers_at}
use borrow.Author.Rules.{rules}
use Rattle.letters.proofs.letters.lowered_by.Goals as goal

pub returns : goal.returns
returns c = search (lowers_at, rules)
