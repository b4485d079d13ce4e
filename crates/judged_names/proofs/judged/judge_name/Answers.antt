use Rattle.judged_names.proofs.Name.{name_laws}
use Rattle.judged_names.proofs.judged.judge_name.Goals as goal
use Rattle.judged_names.proofs.judged.judge_name.Goals.{in-Dot+else-begun-eq0, in-Plain+else-begun-ge63}

pub returns-then-eq : goal.returns-then-eq
returns-then-eq c = search name_laws

pub loop-place-init : goal.loop-place-init
loop-place-init c = search name_laws

pub returns-then-begun-eq0 : goal.returns-then-begun-eq0
returns-then-begun-eq0 c = search name_laws

pub returns-then-begun-ge63 : goal.returns-then-begun-ge63
returns-then-begun-ge63 c = search name_laws

pub returns-in-Other : goal.returns-in-Other
returns-in-Other c = search name_laws

pub loop-place-preserved : goal.loop-place-preserved
loop-place-preserved c = elim c.match-kind_of_byte.branch [ in-Dot+else-begun-eq0 w ↦ search name_laws | in-Plain+else-begun-ge63 w ↦ search name_laws ]

pub returns-then-begun-eq0-2 : goal.returns-then-begun-eq0-2
returns-then-begun-eq0-2 c = search name_laws

pub returns : goal.returns
returns c = search name_laws
