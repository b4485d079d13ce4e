use mathlib.Core.Path.{refl}
use borrow.Author.Rules.{rules}
use Rattle.buffer.proofs.Puts.{then_is}
use Rattle.heads.proofs.Whole.{record_is}
use Rattle.records.proofs.resources.put_resource.Goals as goal

pub put_head-used-requires : goal.put_head-used-requires
put_head-used-requires c = c.requires

pub returns : goal.returns
returns c = record { put = then_is _ _ _ _ c.put_head-used.ensures.put _ _ _ _ c.put_bytes.ensures.put (record_is _ _ _ _ _ refl); value = search rules }
