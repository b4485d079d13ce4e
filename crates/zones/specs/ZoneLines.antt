-- The records of a zone.
use Rattle.std.specs.Prelude.{List, [], ◌∷◌, ℕ}
use Rattle.rules.specs.Records.{Record, resource_of, contact_of, soa_data, soa_shared}
use Rattle.hosts.specs.declared.hosts.HostLine.{HostLine}
use Rattle.hosts.specs.HostLines.{host_records}

abbrev pub soa_record : ℕ → HostLine → Record
soa_record serial h =
    resource_of (soa_shared h.shared) h.owner 6 (soa_data h.host (contact_of h.owner) serial 16384 2048 1048576 2560)

abbrev pub zone_records : ℕ → HostLine → List Record
zone_records serial h = soa_record serial h ∷ host_records h 2 []
