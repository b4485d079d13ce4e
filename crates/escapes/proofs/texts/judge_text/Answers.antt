use Rattle.std.proofs.Common.{◌∙◌}
use Rattle.escapes.proofs.Escape.{front_shorter}
use Rattle.escapes.proofs.TextCount.{counted, refused, ended}
use Rattle.escapes.proofs.texts.judge_text.Goals as goal

pub returns-in_err-rest : goal.returns-in_err-rest
returns-in_err-rest c = c.from_residual.ensures ∙ refused c.loop-left.invariant c.loop-left-test.true c.in_err-rest.ensures

pub loop-left-smaller : goal.loop-left-smaller
loop-left-smaller c = front_shorter c.in_ok-rest.field-0-0 c.in_ok-rest.rest.now c.loop-left.left.now c.in_ok-rest.ensures

pub loop-left-preserved : goal.loop-left-preserved
loop-left-preserved c = counted c.loop-left.invariant c.in_ok-rest.field-0-0 c.in_ok-rest.rest.now c.in_ok-rest.ensures

pub returns : goal.returns
returns c = ended c.loop-left.invariant c.loop-left-test.false
