use Rattle.ranks.proofs.KeyRanks.{typed_laws}
use Rattle.ranks.proofs.typed_rank.Goals as goal

pub returns-then-wild : goal.returns-then-wild
returns-then-wild c = search typed_laws

pub returns-then-wanted-rtype : goal.returns-then-wanted-rtype
returns-then-wanted-rtype c = search typed_laws

pub returns : goal.returns
returns c = search typed_laws
