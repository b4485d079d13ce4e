use Rattle.a_aaaa.proofs.Addressing.{no_address}
use Rattle.a_aaaa.proofs.a_aaaa.put_held_address.Goals as goal

pub returns-in-None : goal.returns-in-None
returns-in-None c = no_address _ _ c.args.address _ c.in-None.is
