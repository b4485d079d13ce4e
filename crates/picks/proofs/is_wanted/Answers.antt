use Rattle.picks.proofs.Picking.{other_rank, any_type, this_type, wanted_laws}
use Rattle.picks.proofs.is_wanted.Goals as goal

pub rank_in-requires : goal.rank_in-requires
rank_in-requires c = search wanted_laws

pub returns-then-rank_in-best : goal.returns-then-rank_in-best
returns-then-rank_in-best c = other_rank _ _ _ _ _ _ _ _ _ c.rank_in.ensures c.if-rank_in-best.true

pub known_in-requires : goal.known_in-requires
known_in-requires c = search wanted_laws

pub returns-then-qtype-eq255 : goal.returns-then-qtype-eq255
returns-then-qtype-eq255 c =
    any_type _ _ _ _ _ _ _ _ _ c.rank_in.ensures _ c.known_in.ensures.result_value c.if-rank_in-best.false _ _ _ _ c.in-Resource.is c.if-qtype-eq255.true

pub returns-in-Location : goal.returns-in-Location
returns-in-Location c = search wanted_laws

pub returns-else-qtype-eq255 : goal.returns-else-qtype-eq255
returns-else-qtype-eq255 c =
    this_type _ _ _ _ _ _ _ _ _ c.rank_in.ensures _ c.known_in.ensures.result_value c.if-rank_in-best.false _ _ _ _ c.in-Resource.is c.if-qtype-eq255.false
