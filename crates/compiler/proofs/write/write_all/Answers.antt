use Rattle.compiler.proofs.Writing.{write_laws, line_good, line_room, next_line, all_written}
use Rattle.compiler.proofs.write.write_all.Goals as goal

pub loop-line-init : goal.loop-line-init
loop-line-init c = search write_laws

pub put_line-used-requires : goal.put_line-used-requires
put_line-used-requires c = (
  line_good _ _ _ _ _ _ c.loop-line.invariant.2 _ _ c.in-Some.ensures.steps,
  line_room _ _ _ _ _ _ c.loop-line.invariant.2 _ _ c.in-Some.ensures.steps,
)

pub loop-line-preserved : goal.loop-line-preserved
loop-line-preserved c = (tt, tt, next_line _ _ _ _ _ _ c.loop-line.invariant.2 _ _ c.in-Some.ensures.steps _ _ c.put_line-used.ensures)

pub returns : goal.returns
returns c = all_written _ _ _ _ _ _ c.loop-line.invariant.2 c.in-None.ensures.steps.0
