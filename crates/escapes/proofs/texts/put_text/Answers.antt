use Rattle.std.proofs.Common.{arith}
use Rattle.escapes.proofs.Escape.{front_shorter}
use Rattle.escapes.proofs.TextPut.{has_room, put, end}
use Rattle.escapes.proofs.texts.put_text.Goals as goal

pub bounds-out-used : goal.bounds-out-used
bounds-out-used c = omega (arith, c.loop-b.invariant.long, has_room c.loop-b.invariant c.requires.0 c.requires.1 c.in-Some.b c.in-Some.rest.now c.in-Some.ensures)

pub loop-b-smaller : goal.loop-b-smaller
loop-b-smaller c = front_shorter c.in-Some.b c.in-Some.rest.now c.loop-b.left.now c.in-Some.ensures

pub loop-b-preserved : goal.loop-b-preserved
loop-b-preserved c = put c.loop-b.invariant c.requires.0 c.requires.1 c.in-Some.b c.in-Some.rest.now c.in-Some.ensures

pub returns : goal.returns
returns c = end c.loop-b.invariant c.requires.0 c.in_default.ensures
