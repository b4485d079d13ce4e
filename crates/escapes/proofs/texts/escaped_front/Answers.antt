use Rattle.escapes.proofs.Escape.{too_short, no_escape, escaped}
use Rattle.escapes.proofs.texts.escaped_front.Goals as goal

pub returns-in_err-escape-in-len3-up : goal.returns-in_err-escape-in-len3-up
returns-in_err-escape-in-len3-up c = rw c.from_residual.ensures (no_escape c.args.text.now c.in-len3-up.len_at_least c.in_err-escape-in-len3-up.ensures)

pub returns-in_default : goal.returns-in_default
returns-in_default c = too_short c.args.text.now c.in_default.len_below

pub returns-in_ok-escape-in-len3-up : goal.returns-in_ok-escape-in-len3-up
returns-in_ok-escape-in-len3-up c = escaped c.args.text.now _ c.in-len3-up.len_at_least c.in_ok-escape-in-len3-up.ensures
