use Rattle.writer.proofs.ByKind.{nothing_left, comment, good_rest, rest_room, rest_put}
use Rattle.writer.proofs.line.put_line.Goals as goal

pub returns-then-n-eq0 : goal.returns-then-n-eq0
returns-then-n-eq0 c = nothing_left _ _ _ c.requires.0 c.stripped-n.ensures _ c.if-n-eq0.true

pub returns-then-is_ignored : goal.returns-then-is_ignored
returns-then-is_ignored c =
    comment _ _ _ c.requires.0 c.stripped-n.ensures c.if-n-eq0.false _ _ c.is_ignored.ensures c.if-is_ignored.true

pub put_rest-requires : goal.put_rest-requires
put_rest-requires c = (
  good_rest c.args.serial _ _ c.requires.0 c.stripped-n.ensures c.if-n-eq0.false _ _ c.is_ignored.ensures c.if-is_ignored.false c.kind_of.ensures,
  rest_room _ _ _ c.requires.0 c.stripped-n.ensures c.if-n-eq0.false _ _ c.is_ignored.ensures c.if-is_ignored.false c.kind_of.ensures _ c.requires.1,
)

pub returns : goal.returns
returns c =
    rest_put _ _ _ c.requires.0 c.stripped-n.ensures c.if-n-eq0.false _ _ c.is_ignored.ensures c.if-is_ignored.false c.kind_of.ensures _ _ _
    c.put_rest.ensures
