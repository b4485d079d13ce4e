-- 02, W14, second half: one source at two moments; proofs/Moments.antt proves it.
use Rattle.std.specs.Prelude.{ℕ, ◌≤◌, ◌<◌, ◌≡◌, Bool, true, false, not, ◌&&◌, ◌||◌, List, length, T, leb, ltb, eqb, Option, Some, None, slice_get}
use Rattle.rules.specs.declared.quantities.Shared.{Shared}
use Rattle.rules.specs.declared.replies.Reply.{Reply}
use Rattle.rules.specs.declared.replies.Response.{Response}
use Rattle.rules.specs.Lists.{all}
use Rattle.rules.specs.Records.{Record, location, resource}
use Rattle.rules.specs.Answers.{source_records}
use Rattle.rules.specs.Questions.{Question, Placed, lifetime_of}
use Rattle.rules.specs.Reading.{moment_end, ask_response}
use Rattle.rules.specs.Demands.{Accepted, bytes_needed, compiled_bytes}
use Rattle.rules.specs.Towns.{stripped_lines, shared_in, result_from}

-- ---- "And for one source: if no time in it lies after the earlier moment and not after the later one, both moments
-- give the same records, only ending lifetimes apart."

-- No time is 0 here, and that is never after a moment.
unfoldable pub quiet_line : ℕ → ℕ → Option Shared → Bool
quiet_line earlier later None = true
quiet_line earlier later (Some shared) = leb shared.time.0 earlier || ltb later shared.time.0

unfoldable pub quiet : ℕ → ℕ → List ℕ → Bool
quiet earlier later source = all (λ line. quiet_line earlier later (shared_in line)) (stripped_lines source)

unfoldable pub asked_at : ℕ → Question → Question
asked_at moment q = record { name = q.name; type = q.type; client = q.client; moment = moment }

-- Rules out: another question asked beside the moment.
unfoldable pub OnlyTheMomentChanges : Type 0
OnlyTheMomentChanges = (q : Question) → asked_at q.moment q ≡ q

-- a record whose lifetime ends: ttl 0 with a time
unfoldable pub ends : Record → Bool
ends (location prefix lo) = false
ends (resource owner type lo ttl time rdata) = eqb ttl 0 && not (eqb time 0)

-- the same outcome and records, places too; and each record that doesn't end has the same lifetime
pub record SameRecords (rs : List Record) (q : Question) (earlier later : ℕ) : Type 0 where
  pub result : result_from rs (asked_at earlier q) ≡ result_from rs (asked_at later q)
  pub lifetimes : (r : Record) → T (not (ends r)) → lifetime_of earlier r ≡ lifetime_of later r

-- Rules out: a record that comes or goes at another second than its line's time.
unfoldable pub BetweenTimesNothingChanges : Type 0
BetweenTimesNothingChanges =
    (q : Question) (earlier later serial : ℕ) (source : List ℕ)
    → earlier ≤ later
    → T (quiet earlier later source)
    → SameRecords (source_records serial source) q earlier later

-- ---- The same of asking.

unfoldable pub without_lifetime : Reply → Reply
without_lifetime (Reply.Found type lifetime place count) = Reply.Found type (record { 0 = 0 }) place count
without_lifetime Reply.NoMore = Reply.NoMore
without_lifetime (Reply.Refused fault) = Reply.Refused fault

-- what is handed out, if anything is, doesn't end
unfoldable pub lasts : Option Placed → Bool
lasts None = true
lasts (Some p) = not (ends p.rec)

pub record SameButLifetime (given : Option Placed) (r s : Response) : Type 0 where
  pub outcome : r.outcome ≡ s.outcome
  pub reply : without_lifetime r.reply ≡ without_lifetime s.reply
  pub lifetime : T (lasts given) → r ≡ s

-- what the lines of a source hand out at an ordinal, if anything
unfoldable pub handed_out : List ℕ → ℕ → Question → ℕ → Option Placed
handed_out source serial q ordinal = slice_get (result_from (source_records serial source) q).list ordinal

-- A later moment of 2^63 or more would be refused.
unfoldable pub BetweenTimesAskedAlike : Type 0
BetweenTimesAskedAlike =
    (q : Question) (earlier later ordinal serial : ℕ) (source out : List ℕ)
    → Accepted source
    → bytes_needed serial source ≤ length out
    → earlier ≤ later
    → later < moment_end
    → T (quiet earlier later source)
    → SameButLifetime (handed_out source serial (asked_at later q) ordinal)
    (ask_response (compiled_bytes source serial out) (asked_at earlier q) ordinal)
    (ask_response (compiled_bytes source serial out) (asked_at later q) ordinal)
