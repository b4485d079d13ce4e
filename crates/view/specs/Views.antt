-- A record of which only ttl, time and lo are looked at.
use Rattle.std.specs.Prelude.{[]}
use Rattle.rules.specs.declared.quantities.Shared.{Shared}
use Rattle.rules.specs.Records.{Record, resource, lo_bytes}

unfoldable pub sharing : Shared → Record
sharing shared = resource [] 0 (lo_bytes shared.lo) shared.ttl.0 shared.time.0 []
