use Rattle.locate.proofs.Stopping.{stop_laws}
use Rattle.locate.proofs.next_stop.Goals as goal

pub loop-at-init : goal.loop-at-init
loop-at-init c = search stop_laws

pub loop-at-preserved : goal.loop-at-preserved
loop-at-preserved c = search stop_laws
