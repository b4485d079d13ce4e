use Rattle.aliases.proofs.AddressLines.{host_fields, host_address, host_line_laws}
use Rattle.aliases.proofs.aliases.put_host_line.Goals as goal

pub read-line-requires : goal.read-line-requires
read-line-requires c = (c.requires.0, host_fields, host_address _ c.requires.0)

pub put_alias-used-requires : goal.put_alias-used-requires
put_alias-used-requires c = search host_line_laws

pub slice_bounds-put_back-end : goal.slice_bounds-put_back-end
slice_bounds-put_back-end c = search host_line_laws

pub put_back-requires : goal.put_back-requires
put_back-requires c = search host_line_laws

pub returns : goal.returns
returns c = search host_line_laws
