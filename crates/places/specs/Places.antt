-- The record at a place of a stream.
use Rattle.std.specs.Prelude.{ℕ, ◌+◌, List, drop, Option, Some, None}
use Rattle.rules.specs.Lists.{pick, is_some}
use Rattle.stream.specs.Heads.{key_length, size_at, record_at}
use Rattle.places.specs.declared.Place.{Place}

-- the key behind the two lengths, the data behind the key, the next record behind the data
unfoldable pub places_at : List ℕ → ℕ → Place
places_at bytes at = record { key = at + 8; rdata = at + 8 + key_length (drop at bytes); next = at + size_at (drop at bytes) }

unfoldable pub found_at : List ℕ → ℕ → Option Place
found_at bytes at = pick (is_some (record_at (drop at bytes))) (Some (places_at bytes at)) None
