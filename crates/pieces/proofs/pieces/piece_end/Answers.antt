use Rattle.std.proofs.Common.{◌∙◌, ap}
use Rattle.std.proofs.lemmas.List.{take_rest}
use Rattle.pieces.specs.Pieces.{first_at}
use Rattle.pieces.proofs.Find.{is_end}
use Rattle.pieces.proofs.pieces.piece_end.Goals as goal

pub returns : goal.returns
returns c = is_end c.args.b c.args.text.now c.args.start _ c.requires (c.first_place.ensures.place ∙ ap (first_at c.args.b) (take_rest c.args.text.now c.args.start))
