use Rattle.keys.proofs.GoodKeys.{key_laws}
use Rattle.keys.proofs.is_low_name.Goals as goal

pub is_lowered-requires : goal.is_lowered-requires
is_lowered-requires c = search key_laws

pub returns-then-not-is_lowered : goal.returns-then-not-is_lowered
returns-then-not-is_lowered c = search key_laws

pub is_wire-requires : goal.is_wire-requires
is_wire-requires c = search key_laws

pub returns : goal.returns
returns c = search key_laws
