use Rattle.keys.proofs.Labels.{too_long_lem, short_enough, label_long, label_passed, wire_laws}
use Rattle.keys.proofs.is_wire.Goals as goal

pub returns-then-n-gt-LONGEST_NAME : goal.returns-then-n-gt-LONGEST_NAME
returns-then-n-gt-LONGEST_NAME c = too_long_lem _ c.if-n-gt-LONGEST_NAME.true

pub returns-then-n-eq0 : goal.returns-then-n-eq0
returns-then-n-eq0 c = search wire_laws

pub overflow_sub-last : goal.overflow_sub-last
overflow_sub-last c = search wire_laws

pub loop-i-init : goal.loop-i-init
loop-i-init c = (c.if-n-gt-LONGEST_NAME.false, short_enough _ c.if-n-gt-LONGEST_NAME.false)

pub bounds-name-i : goal.bounds-name-i
bounds-name-i c = search wire_laws

pub wide-label-requires : goal.wide-label-requires
wide-label-requires c = search wire_laws

pub returns-then-label-eq0 : goal.returns-then-label-eq0
returns-then-label-eq0 c = search wire_laws

pub returns-then-label-gt-LONGEST_LABEL : goal.returns-then-label-gt-LONGEST_LABEL
returns-then-label-gt-LONGEST_LABEL c =
    label_long _ _ c.loop-i.invariant.1 _ c.wide-label.ensures.value c.loop-i-test.true c.if-label-gt-LONGEST_LABEL.true

pub overflow_add-i : goal.overflow_add-i
overflow_add-i c = search wire_laws

pub overflow_add-i-in-loop-i : goal.overflow_add-i-in-loop-i
overflow_add-i-in-loop-i c = search wire_laws

pub loop-i-smaller : goal.loop-i-smaller
loop-i-smaller c = search wire_laws

pub loop-i-preserved : goal.loop-i-preserved
loop-i-preserved c =
    (c.loop-i.invariant.0, label_passed _ _ c.loop-i.invariant.1 _ c.wide-label.ensures.value c.loop-i-test.true c.if-label-eq0.false c.if-label-gt-LONGEST_LABEL.false)

pub returns-then-i-last : goal.returns-then-i-last
returns-then-i-last c = search wire_laws

pub bounds-name-last : goal.bounds-name-last
bounds-name-last c = search wire_laws

pub returns : goal.returns
returns c = search wire_laws
