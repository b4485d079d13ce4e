use Rattle.aliases.proofs.AddressLines.{alias_fields, alias_address, alias_line_laws}
use Rattle.aliases.proofs.aliases.put_alias_line.Goals as goal

pub read-line-requires : goal.read-line-requires
read-line-requires c = (c.requires.0, alias_fields, alias_address _ c.requires.0)

pub put_alias-requires : goal.put_alias-requires
put_alias-requires c = search alias_line_laws

pub returns : goal.returns
returns c = search alias_line_laws
