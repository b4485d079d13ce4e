use Rattle.joined.proofs.Joining.{host_laws}
use Rattle.joined.proofs.joined.host_size.Goals as goal

pub has_byte-requires : goal.has_byte-requires
has_byte-requires c = search host_laws

pub name_size-requires : goal.name_size-requires
name_size-requires c = search host_laws

pub returns-then-has_byte : goal.returns-then-has_byte
returns-then-has_byte c = search host_laws

pub overflow_add-result : goal.overflow_add-result
overflow_add-result c = search host_laws

pub returns-then-n-eq0 : goal.returns-then-n-eq0
returns-then-n-eq0 c = search host_laws

pub overflow_add-result-2 : goal.overflow_add-result-2
overflow_add-result-2 c = search host_laws

pub overflow_add-result-3 : goal.overflow_add-result-3
overflow_add-result-3 c = search host_laws

pub overflow_add-result-4 : goal.overflow_add-result-4
overflow_add-result-4 c = search host_laws

pub returns : goal.returns
returns c = search host_laws
