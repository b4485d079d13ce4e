use Rattle.judge.proofs.SeenRecords.{flag_laws}
use Rattle.judge.proofs.flag_in.Goals as goal

pub returns-then-flag-eq42 : goal.returns-then-flag-eq42
returns-then-flag-eq42 c = search flag_laws

pub returns-then-wild : goal.returns-then-wild
returns-then-wild c = search flag_laws

pub returns-then-flag-eq61 : goal.returns-then-flag-eq61
returns-then-flag-eq61 c = search flag_laws

pub returns-then-flag-eq62 : goal.returns-then-flag-eq62
returns-then-flag-eq62 c = search flag_laws

pub returns : goal.returns
returns c = search flag_laws
