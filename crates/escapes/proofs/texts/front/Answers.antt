use Rattle.std.proofs.Common.{◌∙◌}
use Rattle.escapes.proofs.Escape.{no_front, backslash, plain}
use Rattle.escapes.proofs.texts.front.Goals as goal

pub returns-then-b-eq92 : goal.returns-then-b-eq92
returns-then-b-eq92 c = c.escaped_front.ensures ∙ backslash c.args.text.now c.in-len1-up.len_at_least c.if-b-eq92.true

pub returns-in-empty : goal.returns-in-empty
returns-in-empty c = no_front c.args.text.now c.in-empty.len_below

pub returns-else-b-eq92 : goal.returns-else-b-eq92
returns-else-b-eq92 c = plain c.args.text.now c.in-len1-up.len_at_least c.if-b-eq92.false
