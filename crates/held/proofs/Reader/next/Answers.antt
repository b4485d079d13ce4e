use borrow.Author.Rules.{rules}
use Rattle.held.specs.Nth.{behind}
use Rattle.held.proofs.Reader.next.Goals as goal

pub returns-in_err-place : goal.returns-in_err-place
unfolding behind
returns-in_err-place c = search rules

pub returns : goal.returns
unfolding behind
returns c = search rules
