use Rattle.ranks.proofs.KeyRanks.{role_laws}
use Rattle.ranks.proofs.role_rank.Goals as goal

pub rank-requires : goal.rank-requires
rank-requires c = search role_laws

pub typed_rank-requires : goal.typed_rank-requires
typed_rank-requires c = search role_laws

pub typed_rank-requires-in-Zone : goal.typed_rank-requires-in-Zone
typed_rank-requires-in-Zone c = search role_laws

pub returns-in-Level : goal.returns-in-Level
returns-in-Level c = search role_laws

pub returns-in-Control : goal.returns-in-Control
returns-in-Control c = search role_laws

pub returns-in-Zone : goal.returns-in-Zone
returns-in-Zone c = search role_laws
