use native.Mathlib.Omega.{arith}
use Rattle.stream.proofs.Spans.{long_enough, spanned, unspanned}
use Rattle.stream.proofs.span_at.Goals as goal

pub returns-in_default : goal.returns-in_default
returns-in_default c = unspanned c.args.stream.now c.args.at c.requires c.in_default.ensures

pub overflow_add-middle : goal.overflow_add-middle
overflow_add-middle c = omega (arith, long_enough c.args.stream.now c.args.at c.requires _ c.in-Some.ensures)

pub overflow_add-next : goal.overflow_add-next
overflow_add-next c = omega (arith, long_enough c.args.stream.now c.args.at c.requires _ c.in-Some.ensures)

pub returns : goal.returns
returns c = spanned c.args.stream.now c.args.at c.requires _ c.in-Some.ensures
