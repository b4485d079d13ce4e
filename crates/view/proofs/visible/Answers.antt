use Rattle.view.proofs.Viewing.{visible_laws}
use Rattle.view.proofs.visible.Goals as goal

pub is_here-requires : goal.is_here-requires
is_here-requires c = search visible_laws

pub returns-then-not-is_here : goal.returns-then-not-is_here
returns-then-not-is_here c = search visible_laws

pub in_time-requires : goal.in_time-requires
in_time-requires c = search visible_laws

pub returns : goal.returns
returns c = search visible_laws
