use Rattle.std.proofs.Common.{◌∙◌}
use Rattle.numbers.proofs.Number.{empty, long, no_digits, good, over}
use Rattle.numbers.proofs.numbers.number.Goals as goal

pub returns-then-n-eq0 : goal.returns-then-n-eq0
returns-then-n-eq0 c = empty c.args.limit c.args.text.now c.if-n-eq0.true

pub returns-then-n-gt-MOST_DIGITS : goal.returns-then-n-gt-MOST_DIGITS
returns-then-n-gt-MOST_DIGITS c = long c.args.limit c.args.text.now c.if-n-gt-MOST_DIGITS.true

pub returns-in_err-value : goal.returns-in_err-value
returns-in_err-value c = c.from_residual.ensures ∙ no_digits c.args.limit c.args.text.now c.if-n-eq0.false c.if-n-gt-MOST_DIGITS.false c.in_err-value.ensures

pub returns-then-value-limit : goal.returns-then-value-limit
returns-then-value-limit c = good c.args.limit c.args.text.now c.if-n-eq0.false c.if-n-gt-MOST_DIGITS.false c.in_ok-value.value c.in_ok-value.ensures c.if-value-limit.true

pub returns-else-value-limit : goal.returns-else-value-limit
returns-else-value-limit c = over c.args.limit c.args.text.now c.if-n-eq0.false c.if-n-gt-MOST_DIGITS.false c.in_ok-value.value c.in_ok-value.ensures c.if-value-limit.false
