use Rattle.ranks.proofs.KeyRanks.{seen_one, rank_in_laws}
use mathlib.Core.Path.{ap}
use mathlib.Core.Bool.{not}
use Rattle.ranks.proofs.rank_in.Goals as goal

pub is_related-requires : goal.is_related-requires
is_related-requires c = search rank_in_laws

pub returns-then-not-is_related : goal.returns-then-not-is_related
returns-then-not-is_related c = search rank_in_laws

pub known_in-requires : goal.known_in-requires
known_in-requires c = search rank_in_laws

pub visible-requires : goal.visible-requires
visible-requires c = search rank_in_laws

pub returns-then-not-visible : goal.returns-then-not-visible
returns-then-not-visible c = search rank_in_laws

pub role_rank-requires : goal.role_rank-requires
role_rank-requires c = search rank_in_laws

pub returns-in-Location : goal.returns-in-Location
returns-in-Location c = search rank_in_laws

pub returns-else-not-visible : goal.returns-else-not-visible
returns-else-not-visible c =
    seen_one _ _ _ _ _ _ _ c.known_in.ensures.result_value _ _ _ _ c.in-Resource.is _ c.visible.ensures _ (ap not c.if-not-visible.false) c.role_rank.ensures
