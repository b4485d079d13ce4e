use Rattle.std.proofs.Common.{rules}
use Rattle.times.proofs.Time.{no_number, within, zero, late}
use Rattle.times.proofs.times.time.Goals as goal

pub returns-in_err-value : goal.returns-in_err-value
returns-in_err-value c = rw c.from_residual.ensures (no_number c.args.text.now c.in_err-value.ensures)

pub returns-in-1-to-9223372036854775807 : goal.returns-in-1-to-9223372036854775807
returns-in-1-to-9223372036854775807 c = let e = within c.args.text.now c.in_ok-value.value c.in_ok-value.ensures in search rules

pub returns-in_default : goal.returns-in_default
returns-in_default c = let e = zero c.args.text.now c.in_ok-value.value c.in_ok-value.ensures in search rules

pub returns-in_default-2 : goal.returns-in_default-2
returns-in_default-2 c = let e = late c.args.text.now c.in_ok-value.value c.in_ok-value.ensures in search rules
