use native.Mathlib.Omega.{arith}
use mathlib.Core.Path.{◌∙◌}
use Rattle.held.proofs.Passing.{ended, passed, arrived}
use Rattle.held.proofs.nth.Goals as goal

pub returns-in_default : goal.returns-in_default
returns-in_default c = ended _ _ _ _ c.loop.invariant c.in_default.ensures

pub loop-preserved : goal.loop-preserved
loop-preserved c = passed _ _ _ _ c.loop.invariant _ _ c.in-Some.ensures (omega arith)

pub returns : goal.returns
returns c = c.ok_or.ensures.value ∙ arrived _ _ _ _ c.loop.invariant _ (omega arith) c.record_at-2.ensures
