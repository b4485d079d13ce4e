use Rattle.std.proofs.Common.{◌∙◌}
use Rattle.addresses.proofs.Forms.{by_groups, by_dots}
use Rattle.addresses.proofs.addresses.address.Goals as goal

pub returns-then-has_byte : goal.returns-then-has_byte
returns-then-has_byte c = c.grouped_address.ensures ∙ by_groups c.args.text.now _ c.has_byte.ensures c.if-has_byte.true

pub returns-else-has_byte : goal.returns-else-has_byte
returns-else-has_byte c = c.dotted_address.ensures ∙ by_dots c.args.text.now _ c.has_byte.ensures c.if-has_byte.false
