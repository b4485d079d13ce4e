use Rattle.heads.proofs.Head.{key_laws}
use Rattle.heads.proofs.heads.key_size.Goals as goal

pub is_wild-requires : goal.is_wild-requires
is_wild-requires c = search key_laws

pub overflow_sub-result : goal.overflow_sub-result
overflow_sub-result c = search key_laws

pub returns-then-is_wild : goal.returns-then-is_wild
returns-then-is_wild c = search key_laws

pub returns : goal.returns
returns c = search key_laws
