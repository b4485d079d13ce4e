use borrow.Author.Rules.{rules}
use Rattle.rules.specs.Kinds.{common, meanings, field_count, default_ttl}
use Rattle.rows.proofs.Table.{kinds, row_at}
use Rattle.rows.proofs.rows.row_of.Goals as goal

pub returns : goal.returns
unfolding kinds meanings common field_count default_ttl
returns c = search (rules, row_at)
