use Rattle.given.proofs.Giving.{host_laws}
use Rattle.given.proofs.given.read_host.Goals as goal

pub has_byte-requires : goal.has_byte-requires
has_byte-requires c = search host_laws

pub read_name-requires : goal.read_name-requires
read_name-requires c = search host_laws

pub returns-then-has_byte : goal.returns-then-has_byte
returns-then-has_byte c = search host_laws

pub by-requires : goal.by-requires
by-requires c = search host_laws parts 8

pub returns : goal.returns
returns c = c.by.ensures _ (λ room full len h e. search host_laws)
