use Rattle.ranks.proofs.KeyRanks.{rank_laws}
use Rattle.ranks.proofs.rank.Goals as goal

pub is_ancestor-requires : goal.is_ancestor-requires
is_ancestor-requires c = search rank_laws

pub returns-then-is_ancestor : goal.returns-then-is_ancestor
returns-then-is_ancestor c = search rank_laws

pub returns-then-wild : goal.returns-then-wild
returns-then-wild c = search rank_laws

pub same_lowered-requires : goal.same_lowered-requires
same_lowered-requires c = search rank_laws

pub returns-then-same_lowered : goal.returns-then-same_lowered
returns-then-same_lowered c = search rank_laws

pub returns : goal.returns
returns c = search rank_laws
