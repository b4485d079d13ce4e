use Rattle.std.proofs.Common.{◌∙◌, rules}
use Rattle.prefixes.proofs.Prefix.{no_prefix, some_prefix}
use Rattle.prefixes.proofs.prefixes.prefix.Goals as goal

pub returns-then-text-eq0 : goal.returns-then-text-eq0
returns-then-text-eq0 c = let e = no_prefix c.args.text.now c.if-text-eq0.true in search rules

pub returns : goal.returns
returns c = c.octets.ensures ∙ some_prefix c.args.text.now c.if-text-eq0.false
