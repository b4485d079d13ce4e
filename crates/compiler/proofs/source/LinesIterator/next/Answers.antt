use mathlib.Core.Path.{refl, ap}
use borrow.Author.Rules.{rules}
use lib.ListN.{length}
use Rattle.compiler.proofs.Lines.{lines_none, line_step, some, none}
use Rattle.compiler.proofs.source.LinesIterator.next.Goals as goal

pub returns-then-is_empty-clause-steps : goal.returns-then-is_empty-clause-steps
returns-then-is_empty-clause-steps c = let e = lines_none _ (none _ _ c.is_empty.ensures c.if-is_empty.true) in (e, e)

pub returns-clause-steps : goal.returns-clause-steps
returns-clause-steps c = line_step _ _ _ _ _ c.unwrap_or-self.ensures refl (some _ _ c.is_empty.ensures c.if-is_empty.false) c.piece_end-end.ensures c.get.ensures.lookup

pub returns-clause-goes : goal.returns-clause-goes
returns-clause-goes c =
    let shorter = ap length (line_step _ _ _ _ _ c.unwrap_or-self.ensures refl (some _ _ c.is_empty.ensures c.if-is_empty.false) c.piece_end-end.ensures c.get.ensures.lookup) in
    search rules
