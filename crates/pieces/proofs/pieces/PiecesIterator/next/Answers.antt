use Rattle.std.proofs.Common.{◌≡◌, sym, ap, length, rules, ◌∙◌, []}
use Rattle.pieces.specs.Pieces.{pieces_left}
use Rattle.pieces.proofs.Piece.{left}
use Rattle.pieces.proofs.pieces.PiecesIterator.next.Goals as goal

pub returns-in_err-text-clause-steps : goal.returns-in_err-text-clause-steps
unfolding pieces_left
returns-in_err-text-clause-steps c =
    let none : c.args.self.now ≡ [] = sym c.self.view_is ∙ ap (pieces_left c.self.inside.by) c.in_err-text.was in
    rw c.from_residual.ensures (none, none)

pub returns-clause-steps : goal.returns-clause-steps
returns-clause-steps c =
    sym c.self.view_is
    ∙ left c.self.inside.by c.self.inside.left c.in_ok-text.text c.in_ok-text.was c.first_place-end.result c.get-self-inside.result c.first_place-end.ensures.place c.get-self-inside.ensures.lookup

pub returns-clause-goes : goal.returns-clause-goes
returns-clause-goes c =
    let shorter = ap length
    (sym c.self.view_is
    ∙ left c.self.inside.by c.self.inside.left c.in_ok-text.text c.in_ok-text.was c.first_place-end.result c.get-self-inside.result c.first_place-end.ensures.place c.get-self-inside.ensures.lookup) in
    search rules
