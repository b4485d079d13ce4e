use Rattle.writer.proofs.ByKind.{split_there, split_ready, split_room, split_put}
use Rattle.writer.proofs.line.put_rest.Goals as goal

pub unwrap-fields-requires : goal.unwrap-fields-requires
unwrap-fields-requires c = split_there _ _ _ c.requires.0 c.split.ensures

pub put_kind-requires : goal.put_kind-requires
put_kind-requires c =
    let start = c.requires in
    let fields = c.unwrap-fields.ensures in
    (split_ready _ _ _ start.0 c.split.ensures _ fields, split_room _ _ _ start.0 c.split.ensures _ fields c.args.serial _ start.1)

pub returns : goal.returns
returns c =
    split_put _ _ _ c.requires.0 c.split.ensures _ c.unwrap-fields.ensures c.args.serial _ _ _ c.put_kind.ensures
