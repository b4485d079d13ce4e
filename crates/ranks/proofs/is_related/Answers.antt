use Rattle.ranks.proofs.Related.{related_laws}
use Rattle.ranks.proofs.is_related.Goals as goal

pub is_end-requires : goal.is_end-requires
is_end-requires c = search related_laws

pub returns-then-not-is_end : goal.returns-then-not-is_end
returns-then-not-is_end c = search related_laws

pub returns-then-name-key : goal.returns-then-name-key
returns-then-name-key c = search related_laws

pub is_ancestor-requires : goal.is_ancestor-requires
is_ancestor-requires c = search related_laws

pub returns : goal.returns
returns c = search related_laws
