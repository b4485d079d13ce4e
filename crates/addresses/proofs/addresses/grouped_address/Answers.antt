use Rattle.std.proofs.Common.{◌∙◌, ap, Some}
use Rattle.addresses.proofs.Forms.{grouped}
use Rattle.addresses.proofs.addresses.grouped_address.Goals as goal

pub returns-in_err-eight : goal.returns-in_err-eight
returns-in_err-eight c = rw c.from_residual.ensures (c.in_err-eight.ensures ∙ grouped c.args.text.now)

pub returns : goal.returns
returns c = ap Some c.address_bytes.ensures ∙ c.in_ok-eight.ensures ∙ grouped c.args.text.now
