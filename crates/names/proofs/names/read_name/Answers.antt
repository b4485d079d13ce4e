use borrow.Author.Rules.{rules}
use Rattle.buffer.proofs.Puts.{front, within}
use Rattle.names.proofs.Holding.{name_short}
use Rattle.names.proofs.names.read_name.Goals as goal

pub by-requires : goal.by-requires
by-requires c = search (rules, name_short, within) parts 8

pub returns : goal.returns
returns c = c.by.ensures _ (λ room full len h e. search (rules, front))
