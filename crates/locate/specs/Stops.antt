-- Where a pass over records that are nothing to it stops.
use Rattle.std.specs.Prelude.{ℕ, ◌-◌, ◌≡◌, List, length, take, drop, Option, Some, None}
use Rattle.rules.specs.Reading.{record_in}
use Rattle.stream.specs.Spans.{IsSpan}
use Rattle.locate.specs.declared.Stop.{Stop}
use Rattle.locate.specs.Reaches.{Plain}
use Rattle.locate.specs.Steps.{step_seen, step_of}

-- at a record, and what that record is
pub record Stopped (name stream : List ℕ) (from : ℕ) (stop : Stop) : Type 0 where
  pub plain : Plain name stream from stop.at
  pub span : IsSpan stream stop.at stop.span
  pub is : step_seen stop.step
      ≡ step_of name (take (stop.span.middle - stop.span.start) (drop stop.span.start stream))
      (record_in (take (stop.span.middle - stop.span.start) (drop stop.span.start stream)) (take (stop.span.next - stop.span.middle) (drop stop.span.middle stream)))

abbrev pub IsStop : List ℕ → List ℕ → ℕ → Option Stop → Type 0
IsStop name stream from None = Plain name stream from (length stream)
IsStop name stream from (Some stop) = Stopped name stream from stop
