use borrow.Author.Rules.{rules}
use Rattle.buffer.proofs.Puts.{front, within}
use Rattle.contacts.proofs.Contact.{contact_room}
use Rattle.contacts.proofs.contacts.read_contact.Goals as goal

pub by-requires : goal.by-requires
by-requires c = search (rules, contact_room, within) parts 8

pub returns : goal.returns
returns c = c.by.ensures _ (λ room full len h e. search (rules, front))
