-- The records of a service.
use Rattle.std.specs.Prelude.{List, ◌∷◌}
use Rattle.rules.specs.Records.{Record, resource_of, srv_data, address_records}
use Rattle.rules.specs.declared.quantities.Port.{Port}
use Rattle.rules.specs.declared.quantities.Priority.{Priority}
use Rattle.rules.specs.declared.quantities.Weight.{Weight}
use Rattle.addresses.specs.HeldAddress.{held_address}
use Rattle.hosts.specs.declared.hosts.HostLine.{HostLine}

abbrev pub service_records : HostLine → Priority → Weight → Port → List Record
service_records h priority weight port =
    resource_of h.shared h.owner 33 (srv_data priority weight port h.host) ∷ address_records h.shared h.host (held_address h.address)
