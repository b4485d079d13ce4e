use native.Mathlib.Omega.{arith}
use Rattle.values.proofs.Readiness.{owner_named}
use Rattle.aliases.proofs.AddressLines.{there, address_is}
use Rattle.aliases.proofs.aliases.AddressLine.read.Goals as goal

pub name_at-owner-requires : goal.name_at-owner-requires
name_at-owner-requires c = let ready = c.requires in (omega arith, owner_named _ _ ready.0 ready.1)

pub unwrap-address-requires : goal.unwrap-address-requires
unwrap-address-requires c = there _ _ c.address_of.ensures c.requires.2

pub returns : goal.returns
returns c =
    record { shared = c.shared_of-shared.ensures; owner = c.name_at-owner.ensures; address = address_is _ _ _ c.address_of.ensures c.unwrap-address.ensures }
