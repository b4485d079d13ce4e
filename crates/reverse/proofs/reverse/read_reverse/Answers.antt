use borrow.Author.Rules.{rules}
use Rattle.buffer.proofs.Puts.{front, within}
use Rattle.reverse.proofs.Reversed.{reverse_room}
use Rattle.reverse.proofs.reverse.read_reverse.Goals as goal

pub by-requires : goal.by-requires
by-requires c = search (rules, reverse_room, within) parts 8

pub returns : goal.returns
returns c = c.by.ensures _ (λ room full len h e. search (rules, front))
