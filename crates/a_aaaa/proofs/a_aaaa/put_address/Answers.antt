use native.Mathlib.Omega.{arith}
use Rattle.a_aaaa.proofs.Addressing.{no_bytes, address_put, address_room, four, other}
use Rattle.a_aaaa.proofs.a_aaaa.put_address.Goals as goal

pub put_resource-requires : goal.put_resource-requires
put_resource-requires c = address_room _ _ 1 _ (omega arith) (four _ (omega arith)) _ c.requires

pub put_resource-requires-in_default : goal.put_resource-requires-in_default
put_resource-requires-in_default c = address_room _ _ 28 _ (omega arith) (other _ (λ e. absurd (omega arith))) _ c.requires

pub returns-in-0 : goal.returns-in-0
returns-in-0 c = no_bytes _ _ _ _ (omega arith)

pub returns-in-4 : goal.returns-in-4
returns-in-4 c = address_put _ _ _ _ (omega arith) (four _ (omega arith)) _ _ _ c.put_resource.ensures.put

pub returns-in_default : goal.returns-in_default
returns-in_default c = address_put _ _ _ _ (omega arith) (other _ (λ e. absurd (omega arith))) _ _ _ c.put_resource-in_default.ensures.put
