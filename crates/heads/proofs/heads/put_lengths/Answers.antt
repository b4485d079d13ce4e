use mathlib.Core.List.{append-nil}
use Rattle.rules.specs.Lists.{join_all}
use Rattle.integers.proofs.Sequences.{put_is}
use Rattle.heads.proofs.heads.put_lengths.Goals as goal

pub returns-clause-put : goal.returns-clause-put
unfolding join_all
returns-clause-put c = put_is _ _ _ _ _ c.put_each_le.ensures.put (rw append-nil)
