use Rattle.std.proofs.Common.{◌≡◌, ◌∙◌, sym, rules, tests, arith}
use Rattle.std.proofs.lemmas.Iterator.{YieldsList-from_slice, IsFirst-from_position, index_from_first}
use Rattle.pieces.specs.Pieces.{first_at}
use Rattle.pieces.proofs.Find.{within, first_none, first_hit, first_miss}
use Rattle.pieces.proofs.pieces.first_place.Goals as goal

pub returns-clause-place : goal.returns-clause-place
returns-clause-place c =
    let b = c.args.b in
    let found =
    IsFirst-from_position _ _ _ (λ x. x ≡ b) (λ x. x ≡ b → ⊥) c.position.ensures.ran (YieldsList-from_slice c.args.text.now c.iter.ensures.rest) (λ x q k. search (rules, tests))
    (λ x q k. search (rules, tests)) in
    sym (index_from_first (first_at b) (λ x. x ≡ b) (λ x. x ≡ b → ⊥) (first_none b) (first_hit b) (first_miss b) c.args.text.now _ found ∙ sym c.unwrap_or.ensures)

pub returns-clause-within : goal.returns-clause-within
returns-clause-within c =
    let b = c.args.b in
    let found =
    IsFirst-from_position _ _ _ (λ x. x ≡ b) (λ x. x ≡ b → ⊥) c.position.ensures.ran (YieldsList-from_slice c.args.text.now c.iter.ensures.rest) (λ x q k. search (rules, tests))
    (λ x q k. search (rules, tests)) in
    let e = sym (index_from_first (first_at b) (λ x. x ≡ b) (λ x. x ≡ b → ⊥) (first_none b) (first_hit b) (first_miss b) c.args.text.now _ found ∙ sym c.unwrap_or.ensures) in
    omega (arith, within b c.args.text.now, e)
