-- 02, W14: one town's lines, another town's panels, as statements about the definitions; proofs/Towns.antt proves
-- them. Moments.antt has W14's second half, Index.antt what else an answer doesn't depend on;
-- crates/vahmizar/specs/Towns.antt has all three over the calls.
use Rattle.std.specs.Prelude.{ℕ, ◌≤◌, ◌≡◌, Bool, false, ◌||◌, List, [], ◌∷◌, map, length, take, drop, eqb, Option, Some, None}
use Rattle.rules.specs.declared.quantities.Shared.{Shared}
use Rattle.rules.specs.declared.replies.Reply.{Reply}
use Rattle.rules.specs.declared.replies.Response.{Response}
use Rattle.rules.specs.Lists.{pick, keep, same_bytes, split_on}
use Rattle.rules.specs.Kinds.{lines_of, strip, ignored, kind_of}
use Rattle.rules.specs.Records.{Record, lo_bytes, shared_of}
use Rattle.rules.specs.Answers.{source_records}
use Rattle.rules.specs.Questions.{Question, placed_from, location_of, Result, answers}
use Rattle.rules.specs.Reading.{ask_response}
use Rattle.rules.specs.Demands.{Accepted, bytes_needed, compiled_bytes}

-- the lines of a source, spaces and tabs at their ends dropped
unfoldable pub stripped_lines : List ℕ → List (List ℕ)
stripped_lines source = map strip (lines_of source)

unfoldable pub is_location_line : List ℕ → Bool
is_location_line [] = false
is_location_line (kind ∷ rest) = eqb kind 37

-- ttl, time and lo of any other line that isn't empty or ignored, by its kind's last three fields
unfoldable pub shared_in : List ℕ → Option Shared
shared_in [] = None
shared_in (kind ∷ rest) = pick (ignored kind || eqb kind 37) None (Some (shared_of (kind_of kind) (split_on 58 rest)))

-- ---- "Take two accepted sources with the same default serial, the same `%` lines and the same other lines, both in
-- the same order, save those others whose lo isn't empty and isn't this client's location; each may have any of these."

-- no lo, or that of a location
unfoldable pub has_lo_of : List ℕ → Option Shared → Bool
has_lo_of here None = false
has_lo_of here (Some shared) = eqb (length (lo_bytes shared.lo)) 0 || same_bytes (lo_bytes shared.lo) here

unfoldable pub location_lines : List ℕ → List (List ℕ)
location_lines source = keep is_location_line (stripped_lines source)

unfoldable pub lines_for : List ℕ → List ℕ → List (List ℕ)
lines_for here source = keep (λ line. has_lo_of here (shared_in line)) (stripped_lines source)

-- "this client's location", by the lines of a source
abbrev pub location_in : List ℕ → ℕ → List ℕ → List ℕ
location_in source serial client = location_of client (source_records serial source)

-- Each in its own order: how `%` lines stand among the others is left open, and so are empty and ignored lines.
pub record SameFor (client : List ℕ) (serial : ℕ) (a b : List ℕ) : Type 0 where
  pub locations : location_lines a ≡ location_lines b
  pub others : lines_for (location_in a serial client) a ≡ lines_for (location_in a serial client) b

-- Nothing else is asked of two sources.
-- Rules out: a statement about pairs that are the same in more than this.
unfoldable pub TheseLinesAreAll : Type 0
TheseLinesAreAll =
    (client : List ℕ) (serial : ℕ) (a b : List ℕ)
    → location_lines a ≡ location_lines b
    → lines_for (location_in a serial client) a ≡ lines_for (location_in a serial client) b
    → SameFor client serial a b

-- ---- "Every question from this client then gets the same outcome and list at every moment." "Places and byte counts
-- depend on the other lines and are no part of it."

unfoldable pub result_from : List Record → Question → Result
result_from rs q = answers q (placed_from 0 rs)

pub record SameResult (x y : Result) : Type 0 where
  pub outcome : x.outcome ≡ y.outcome
  pub list : map (λ p. p.rec) x.list ≡ map (λ p. p.rec) y.list

-- That they are accepted isn't needed for this.
-- Rules out: a record of another location taken for the level, the control name or its SOA.
unfoldable pub OtherTownsAreUnseen : Type 0
OtherTownsAreUnseen =
    (q : Question) (serial : ℕ) (a b : List ℕ)
    → SameFor q.client serial a b
    → SameResult (result_from (source_records serial a) q) (result_from (source_records serial b) q)

-- Of the `%` lines only the location counts that they give this client: another town may have new ones too.
-- Rules out: a prefix that the client's address doesn't begin with, and that still changes its answers.
unfoldable pub TheLocationIsEnough : Type 0
TheLocationIsEnough =
    (q : Question) (serial : ℕ) (x y : List ℕ)
    → location_in x serial q.client ≡ location_in y serial q.client
    → lines_for (location_in x serial q.client) x ≡ lines_for (location_in x serial q.client) y
    → SameResult (result_from (source_records serial x) q) (result_from (source_records serial y) q)

-- The same of asking: a reply but for its place, and the bytes that it hands out.
unfoldable pub without_place : Reply → Reply
without_place (Reply.Found type lifetime place count) = Reply.Found type lifetime 0 count
without_place Reply.NoMore = Reply.NoMore
without_place (Reply.Refused fault) = Reply.Refused fault

unfoldable pub handed : List ℕ → Reply → List ℕ
handed stream (Reply.Found type lifetime place count) = take count (drop place stream)
handed stream Reply.NoMore = []
handed stream (Reply.Refused fault) = []

pub record SameResponse (x y : List ℕ) (r s : Response) : Type 0 where
  pub outcome : r.outcome ≡ s.outcome
  pub numbers : without_place r.reply ≡ without_place s.reply
  pub rdata : handed x r.reply ≡ handed y s.reply

-- two streams answer a question alike
unfoldable pub AnswerAlike : List ℕ → List ℕ → Question → ℕ → Type 0
AnswerAlike x y q ordinal = SameResponse x y (ask_response x q ordinal) (ask_response y q ordinal)

-- Rules out: an ordinal that counts records of another location; data taken at the other source's place.
unfoldable pub OtherTownsAreUnasked : Type 0
OtherTownsAreUnasked =
    (q : Question) (ordinal serial : ℕ) (a b outA outB : List ℕ)
    → Accepted a
    → Accepted b
    → SameFor q.client serial a b
    → bytes_needed serial a ≤ length outA
    → bytes_needed serial b ≤ length outB
    → AnswerAlike (compiled_bytes a serial outA) (compiled_bytes b serial outB) q ordinal
