use Rattle.std.proofs.Common.{refl}
use Rattle.pieces.specs.Pieces.{pieces_left}
use Rattle.pieces.proofs.pieces.Pieces.new.Goals as goal

pub returns : goal.returns
unfolding pieces_left
returns c = refl
