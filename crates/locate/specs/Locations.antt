-- The client's location over a stream that may not be whole records.
use Rattle.std.specs.Prelude.{ℕ, List, Option, Some, None}
use Rattle.rules.specs.Records.{Record, lo_bytes}
use Rattle.rules.specs.Questions.{Best, best_of, location_of}
use Rattle.locate.specs.declared.Located.{Located}
use Rattle.locate.specs.declared.Judged.{Judged}

unfoldable pub located_in : List ℕ → Option (List Record) → Option (List ℕ)
located_in client None = None
located_in client (Some rs) = Some (location_of client rs)

-- the same from the best so far on
unfoldable pub located_from : List ℕ → Best → Option (List Record) → Option (List ℕ)
located_from client best None = None
located_from client best (Some rs) = Some (best_of client best rs).lo

-- what the code's answers mean
unfoldable pub best_seen : Located → Best
best_seen r = record { lo = lo_bytes r.lo; at_least = r.least }

unfoldable pub judged_lo : Option Judged → Option (List ℕ)
judged_lo None = None
judged_lo (Some judged) = Some (lo_bytes judged.here)
