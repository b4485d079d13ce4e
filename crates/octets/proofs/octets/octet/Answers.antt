use Rattle.std.proofs.Common.{◌∙◌, sym, rules}
use Rattle.octets.proofs.Octet.{long, zero_ahead, number_is, byte_fits}
use Rattle.octets.proofs.octets.octet.Goals as goal

pub returns-then-text-gt3 : goal.returns-then-text-gt3
returns-then-text-gt3 c = search (long, rules)

pub returns-then-leads_with_zero : goal.returns-then-leads_with_zero
returns-then-leads_with_zero c = search (zero_ahead, rules)

pub returns-in_err-value : goal.returns-in_err-value
returns-in_err-value c = c.from_residual.ensures ∙ c.in_err-value.ensures ∙ number_is c.args.text.now _ c.leads_with_zero.ensures c.if-leads_with_zero.false c.if-text-gt3.false

pub overflow_cast-result : goal.overflow_cast-result
overflow_cast-result c = byte_fits c.args.text.now c.in_ok-value.value (sym c.in_ok-value.ensures)

pub returns : goal.returns
returns c = c.in_ok-value.ensures ∙ number_is c.args.text.now _ c.leads_with_zero.ensures c.if-leads_with_zero.false c.if-text-gt3.false
