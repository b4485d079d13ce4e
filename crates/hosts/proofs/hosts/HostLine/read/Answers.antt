use native.Mathlib.Omega.{arith}
use Rattle.addresses.proofs.HoldingAddress.{held_is}
use Rattle.values.proofs.Readiness.{owner_named}
use Rattle.hosts.proofs.HostReading.{host_count, host_ready}
use Rattle.hosts.proofs.hosts.HostLine.read.Goals as goal

pub shared_of-shared-requires : goal.shared_of-shared-requires
shared_of-shared-requires c = host_count _ c.requires.1

pub name_at-owner-requires : goal.name_at-owner-requires
name_at-owner-requires c = let ready = c.requires in (omega arith, owner_named _ _ ready.0 (host_count _ ready.1))

pub host_of-host-requires : goal.host_of-host-requires
host_of-host-requires c =
    let ready = c.requires in
    host_ready _ _ _ _ ready.0 ready.1 ready.2 c.name_at-owner.ensures

pub returns : goal.returns
returns c =
    let middle = c.requires.2 in
    record { shared = c.shared_of-shared.ensures; owner = c.name_at-owner.ensures; host = rw (← middle, ← c.name_at-owner.ensures) c.host_of-host.ensures; address = held_is _ _ c.address_of-address.ensures }
