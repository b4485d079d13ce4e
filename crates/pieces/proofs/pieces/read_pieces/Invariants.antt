use Rattle.std.proofs.Common.{◌≤◌, ℕ, List, Option, length, take}
use Rattle.rules.specs.Lists.{split_on}
use Rattle.pieces.specs.Pieces.{Reads}
use Rattle.pieces.proofs.Read.{Going}
use Rattle.pieces.proofs.pieces.read_pieces.Given as goal

abbrev pub invariant-loop-piece : goal.invariant-loop-piece
invariant-loop-piece g l =
    (l.count ≤ length l.out)
    × ((f : List ℕ → Option g.row.T.Denot) → Reads g.F.Fn l.read f → Going f (split_on l.b l.text) l.piece-iterator (take l.count l.out))
