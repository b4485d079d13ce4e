-- The records from a place of a stream on.
use Rattle.std.specs.Prelude.{ℕ, zero, suc, List, Option, Some, None, Result}
use Rattle.std.specs.Option.{ok_or}
use Rattle.places.specs.declared.Place.{Place}
use Rattle.places.specs.Places.{found_at}

-- where a reader goes on; what isn't whole is never passed
unfoldable pub behind : ℕ → Option Place → ℕ
behind at None = at
behind at (Some place) = place.next

-- the record behind so many others; or where no whole one is
unfoldable pub found_from : ℕ → List ℕ → ℕ → Result Place ℕ
found_from zero bytes at = ok_or (found_at bytes at) at
found_from (suc count) bytes at = found_from count bytes (behind at (found_at bytes at))
