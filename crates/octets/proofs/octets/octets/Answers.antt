use Rattle.std.proofs.Common.{◌∙◌, ap, Some, arith}
use Rattle.octets.specs.Octets.{octet_of}
use Rattle.octets.proofs.Octet.{octets_read}
use Rattle.octets.proofs.octets.octets.Goals as goal

pub returns-in_err-count : goal.returns-in_err-count
returns-in_err-count c = c.from_residual.ensures ∙ c.in_err-count.ensures.values octet_of (λ piece r h. h.says.met ∙ ap octet_of h.shows) ∙ octets_read c.args.text.now

pub new-requires : goal.new-requires
new-requires c = (omega arith, (omega arith, c.in_ok-count.ensures.room))

pub returns : goal.returns
returns c = ap Some c.new.ensures ∙ c.in_ok-count.ensures.values octet_of (λ piece r h. h.says.met ∙ ap octet_of h.shows) ∙ octets_read c.args.text.now
