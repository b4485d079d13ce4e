-- The place of a record in its stream.
use Rattle.std.specs.Prelude.{ℕ, ◌+◌, ◌-◌, ◌<◌, ◌≤◌, ◌≡◌, List, length, take, drop}
use Rattle.rules.specs.Reading.{record_in, onto_records, decode}
use Rattle.stream.specs.Heads.{key_length, size_at, record_at}
use Rattle.stream.specs.declared.Span.{Span}

-- the bytes from one place up to another
unfoldable pub part : List ℕ → ℕ → ℕ → List ℕ
part stream from to = take (to - from) (drop from stream)

-- what is at a place is a record's key and data, and what is behind them
pub record IsSpan (stream : List ℕ) (at : ℕ) (r : Span) : Type 0 where
  pub says : decode (drop at stream) ≡ onto_records (record_in (part stream r.start r.middle) (part stream r.middle r.next)) (decode (drop r.next stream))
  pub here : record_at (drop at stream) ≡ record_in (part stream r.start r.middle) (part stream r.middle r.next)
  pub lengths_first : r.start < r.middle → r.start ≡ at + 8
  pub key_ends : r.start < r.middle → r.middle ≡ at + 8 + key_length (drop at stream)
  pub data_end : r.start < r.middle → r.next ≡ at + size_at (drop at stream)
  pub goes_on : at < r.next
  pub inside : r.next ≤ length stream
  pub key_first : r.start ≤ r.middle
  pub data_behind : r.middle ≤ r.next
