-- The record at the front of a stream.
use Rattle.std.specs.Prelude.{ℕ, ◌+◌, Bool, ◌&&◌, List, length, take, drop, leb, Option, Some, None}
use Rattle.rules.specs.Lists.{pick, from_le}
use Rattle.rules.specs.Records.{Record}
use Rattle.rules.specs.Reading.{record_in}
use Rattle.stream.specs.declared.Head.{Head}

-- the length of its key and of its data
unfoldable pub key_length : List ℕ → ℕ
key_length bytes = from_le (take 4 bytes)

unfoldable pub data_length : List ℕ → ℕ
data_length bytes = from_le (take 4 (drop 4 bytes))

unfoldable pub size_at : List ℕ → ℕ
size_at bytes = 8 + key_length bytes + data_length bytes

-- the lengths are there, and what they say is
unfoldable pub fits : List ℕ → Bool
fits bytes = leb 8 (length bytes) && leb (size_at bytes) (length bytes)

unfoldable pub head_of : List ℕ → Option Head
head_of bytes = pick (fits bytes) (Some (record { key = key_length bytes; rdata = data_length bytes })) None

unfoldable pub key_at : List ℕ → List ℕ
key_at bytes = take (key_length bytes) (drop 8 bytes)

unfoldable pub data_at : List ℕ → List ℕ
data_at bytes = take (data_length bytes) (drop (8 + key_length bytes) bytes)

-- the record, or none where the lengths don't fit or where it is malformed
unfoldable pub record_at : List ℕ → Option Record
record_at bytes = pick (fits bytes) (record_in (key_at bytes) (data_at bytes)) None
