use Rattle.lines.proofs.Judging.{too_long_lem, nothing_left, comment, of_kind}
use Rattle.lines.proofs.judge.line_fault.Goals as goal

pub returns-then-length-gt1024 : goal.returns-then-length-gt1024
returns-then-length-gt1024 c = too_long_lem _ _ c.if-length-gt1024.true c.whole_line.ensures

pub returns-then-n-eq0 : goal.returns-then-n-eq0
returns-then-n-eq0 c =
    nothing_left _ _ c.if-length-gt1024.false c.stripped-n.ensures _ c.if-n-eq0.true c.whole_line-then-n-eq0.ensures

pub returns-then-is_ignored : goal.returns-then-is_ignored
returns-then-is_ignored c =
    comment _ _ c.if-length-gt1024.false c.stripped-n.ensures c.if-n-eq0.false _ _ c.is_ignored.ensures c.if-is_ignored.true c.whole_line-then-is_ignored.ensures

pub returns : goal.returns
returns c =
    of_kind _ _ c.if-length-gt1024.false c.stripped-n.ensures c.if-n-eq0.false _ _ _ c.is_ignored.ensures c.if-is_ignored.false c.kind_of.ensures c.kind_fault.ensures
