use Rattle.std.proofs.Common.{◌≡◌, ◌∙◌, ap, length, Some, arith}
use Rattle.addresses.proofs.Forms.{no_numbers, too_few, just_four, four}
use Rattle.addresses.proofs.addresses.dotted_address.Goals as goal

pub returns-in_err-read : goal.returns-in_err-read
returns-in_err-read c = rw c.from_residual.ensures (no_numbers c.args.text.now c.in_err-read.ensures)

pub returns-in-len4 : goal.returns-in-len4
returns-in-len4 c =
    let l : length c.as_slice.result.now ≡ 4 = omega (arith, c.in-len4.len_at_least, c.as_slice.ensures.len) in
    ap Some (four c.as_slice.result.now l) ∙ just_four c.args.text.now c.as_slice.result.now (ap Some c.as_slice.ensures.value ∙ c.in_ok-read.ensures) l

pub returns-in_default : goal.returns-in_default
returns-in_default c = too_few c.args.text.now c.as_slice.result.now (ap Some c.as_slice.ensures.value ∙ c.in_ok-read.ensures) c.in_default.len_below
