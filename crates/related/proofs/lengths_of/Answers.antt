use Rattle.wire.proofs.Parts.{tail_lent}
use Rattle.related.proofs.Lengths.{headed, at_root, at_end, next_marked, length_laws}
use Rattle.related.proofs.lengths_of.Goals as goal

pub loop-label-init : goal.loop-label-init
loop-label-init c = search length_laws

pub returns-then-label-eq0 : goal.returns-then-label-eq0
returns-then-label-eq0 c =
    let i = c.loop-label.invariant in
    at_root _ _ _ i.2 i.1 c.requires _ _ (headed _ _ _ _ c.in-Some.ensures.cases.0 c.from-label.ensures) c.if-label-eq0.true

pub returns-then-behind-label : goal.returns-then-behind-label
returns-then-behind-label c =
    let i = c.loop-label.invariant in
    at_end _ _ _ i.2 i.1 c.requires _ _ (headed _ _ _ _ c.in-Some.ensures.cases.0 c.from-label.ensures) c.if-label-eq0.false c.if-behind-label.true

pub loop-label-preserved : goal.loop-label-preserved
loop-label-preserved c =
    let i = c.loop-label.invariant in
    next_marked _ _ _ i.2 i.1 c.requires _ _ (headed _ _ _ _ c.in-Some.ensures.cases.0 c.from-label.ensures) c.if-label-eq0.false
    c.if-behind-label.false i.0 _ (tail_lent c.in-Some.behind.now c.from-label.result)

pub returns : goal.returns
returns c = search length_laws
