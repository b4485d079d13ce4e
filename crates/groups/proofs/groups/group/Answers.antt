use Rattle.std.proofs.Common.{◌∙◌, sym}
use Rattle.groups.proofs.Group.{empty, long, group_is, group_fits}
use Rattle.groups.proofs.groups.group.Goals as goal

pub returns-then-n-eq0 : goal.returns-then-n-eq0
returns-then-n-eq0 c = empty c.args.text.now c.if-n-eq0.true

pub returns-then-n-gt-MOST_DIGITS : goal.returns-then-n-gt-MOST_DIGITS
returns-then-n-gt-MOST_DIGITS c = long c.args.text.now c.if-n-gt-MOST_DIGITS.true

pub returns-in_err-number : goal.returns-in_err-number
returns-in_err-number c = c.from_residual.ensures ∙ c.in_err-number.ensures ∙ group_is c.args.text.now c.if-n-eq0.false c.if-n-gt-MOST_DIGITS.false

pub overflow_cast-result : goal.overflow_cast-result
overflow_cast-result c = group_fits c.args.text.now c.in_ok-number.number c.if-n-gt-MOST_DIGITS.false (sym c.in_ok-number.ensures)

pub returns : goal.returns
returns c = c.in_ok-number.ensures ∙ group_is c.args.text.now c.if-n-eq0.false c.if-n-gt-MOST_DIGITS.false
