use Rattle.std.proofs.Common.{◌∙◌}
use Rattle.wire.proofs.Parts.{tail_lent}
use Rattle.ranks.proofs.Ranking.{at_root, at_end, is_one, not_one, ancestor_laws}
use Rattle.ranks.proofs.is_ancestor.Goals as goal

pub returns-then-name-key : goal.returns-then-name-key
returns-then-name-key c = search ancestor_laws

pub returns-then-label-eq0 : goal.returns-then-label-eq0
returns-then-label-eq0 c =
    at_root _ _ _ c.loop-first.invariant _ _ c.in-Some.ensures.cases.0 _ (c.from-label.ensures ∙ c.lowered.ensures) c.if-label-eq0.true

pub returns-then-behind-label : goal.returns-then-behind-label
returns-then-behind-label c =
    at_end _ _ _ c.loop-first.invariant _ _ c.in-Some.ensures.cases.0 _ (c.from-label.ensures ∙ c.lowered.ensures) c.if-label-eq0.false
    c.if-behind-label.true

pub returns-then-same_lowered : goal.returns-then-same_lowered
returns-then-same_lowered c =
    is_one _ _ _ c.loop-first.invariant _ _ c.in-Some.ensures.cases.0 _ (c.from-label.ensures ∙ c.lowered.ensures) c.if-label-eq0.false
    c.if-behind-label.false _ (tail_lent c.in-Some.behind.now c.from-label.result) _ c.same_lowered.ensures c.if-same_lowered.true

pub loop-first-preserved : goal.loop-first-preserved
loop-first-preserved c =
    not_one _ _ _ c.loop-first.invariant _ _ c.in-Some.ensures.cases.0 _ (c.from-label.ensures ∙ c.lowered.ensures) c.if-label-eq0.false
    c.if-behind-label.false _ (tail_lent c.in-Some.behind.now c.from-label.result) _ c.same_lowered.ensures c.if-same_lowered.false

pub returns : goal.returns
returns c = search ancestor_laws
