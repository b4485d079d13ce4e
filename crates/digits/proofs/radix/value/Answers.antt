use Rattle.std.proofs.Common.{◌∙◌, sym}
use Rattle.digits.proofs.Digit.{next, no_digit, at_end, more_digits, times_fits, more_fits}
use Rattle.digits.proofs.radix.value.Goals as goal

pub returns-in_err-digit : goal.returns-in_err-digit
returns-in_err-digit g c = c.from_residual.ensures ∙ sym (c.loop-b.invariant.1 ∙ no_digit _ g.R.Radix.digit_of c.args.text.now _ _ c.loop-b-test.true c.in_err-digit.ensures)

pub overflow_mul-value : goal.overflow_mul-value
overflow_mul-value g c = times_fits c.BASE.result _ _ _ (rw c.BASE.ensures g.met.R.Radix.few) c.loop-b.invariant.0 c.loop-b-test.true c.requires

pub overflow_add-value : goal.overflow_add-value
overflow_add-value g c =
    more_fits c.BASE.result _ _ _ (rw c.BASE.ensures g.met.R.Radix.few) c.loop-b.invariant.0 c.loop-b-test.true c.requires _ (g.met.R.Radix.below _ _ (sym c.in_ok-digit.ensures))

pub loop-b-preserved : goal.loop-b-preserved
loop-b-preserved g c = (
  more_digits c.BASE.result _ _ (rw c.BASE.ensures g.met.R.Radix.few) c.loop-b.invariant.0 _ (g.met.R.Radix.below _ _ (sym c.in_ok-digit.ensures)),
  rw c.BASE.ensures (c.loop-b.invariant.1 ∙ next _ g.R.Radix.digit_of c.args.text.now _ _ c.loop-b-test.true _ c.in_ok-digit.ensures),
)

pub returns : goal.returns
returns g c = sym (c.loop-b.invariant.1 ∙ at_end _ g.R.Radix.digit_of c.args.text.now _ _ c.loop-b-test.false)
