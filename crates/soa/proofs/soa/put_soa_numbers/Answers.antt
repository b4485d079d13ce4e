use mathlib.Core.List.{append_assoc, append-nil}
use Rattle.rules.specs.Lists.{join_all}
use Rattle.integers.proofs.Sequences.{put_is}
use Rattle.soa.proofs.soa.put_soa_numbers.Goals as goal

pub returns-clause-put : goal.returns-clause-put
unfolding join_all
returns-clause-put c = put_is _ _ _ _ _ c.put_each_be.ensures.put (simp (append_assoc, append-nil))
