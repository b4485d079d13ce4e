use Rattle.std.proofs.Common.{◌≡◌, ◌^◌, ◌<◌, drop}
use Rattle.digits.specs.Digits.{value_from}
use Rattle.digits.proofs.radix.value.Given as goal

abbrev pub invariant-loop-b : goal.invariant-loop-b
invariant-loop-b g l = (l.value < 16 ^ l.b-index) × (value_from g.R.Radix.BASE g.R.Radix.digit_of 0 l.text ≡ value_from g.R.Radix.BASE g.R.Radix.digit_of l.value (drop l.b-index l.text))
