-- What is demanded of compiling and asking, as statements about the definitions. proofs/Refusals.antt and proofs/Meaning.antt prove them.
use Rattle.std.specs.Prelude.{ℕ, suc, ◌+◌, ◌≤◌, ◌<◌, ◌≡◌, not, List, [], ◌⊎◌, length, drop, take, get_or, T, Option, Some, None, slice_get}
use Rattle.rules.specs.declared.faults.Answer.{Answer}
use Rattle.rules.specs.declared.faults.Fault.{Fault}
use Rattle.rules.specs.declared.replies.Reply.{Reply}
use Rattle.rules.specs.declared.replies.Response.{Response}
use Rattle.rules.specs.Lists.{all}
use Rattle.rules.specs.Kinds.{lines_of}
use Rattle.rules.specs.Names.{is_wire}
use Rattle.rules.specs.Records.{Record}
use Rattle.rules.specs.Bytes.{rdata_of, size_of_all}
use Rattle.rules.specs.Answers.{answer, line_fault, is_good, longest_source, source_records, compile_answer, compile_output}
use Rattle.rules.specs.Questions.{Question, Placed, placed_from, answers, lifetime_of}
use Rattle.rules.specs.Reading.{moment_end, type_of, ask_response}

-- "A source is accepted if it isn't too long and no line is bad"
unfoldable pub Accepted : List ℕ → Type 0
Accepted source = (length source ≤ longest_source) × T (all is_good (lines_of source))

-- the bytes that a source needs: "the sum of record sizes"
unfoldable pub bytes_needed : ℕ → List ℕ → ℕ
bytes_needed serial source = size_of_all (source_records serial source)

-- line k of a source, from 0; a line that isn't there is empty, and good
unfoldable pub line_at : List ℕ → ℕ → List ℕ
line_at source k = get_or (lines_of source) k []

-- the first bad line is line k, from 0
unfoldable pub FirstBad : List ℕ → ℕ → Type 0
FirstBad source k = T (not (is_good (line_at source k))) × ((j : ℕ) → j < k → T (is_good (line_at source j)))

-- Each refusal of compiling is given exactly where 01 has it. Demand 2: a refusal for a line exactly when there is a bad one, and the line
-- named is the first. The rule for 13: "given exactly when the source isn't too long, every line is good and the sum of record sizes exceeds
-- the buffer".
pub record RefusesExactly (source : List ℕ) (serial room : ℕ) (a : Answer) : Type 0 where
  pub too_long : longest_source < length source → a ≡ answer Fault.SourceTooLong 0 0 0
  pub bad_line :
      (k : ℕ) → length source ≤ longest_source → FirstBad source k
      → a ≡ answer (line_fault (line_at source k)).fault (suc k) (line_fault (line_at source k)).field 0
  pub no_room : Accepted source → room < bytes_needed serial source → a ≡ answer Fault.NoRoom 0 0 (bytes_needed serial source)
  pub done : Accepted source → bytes_needed serial source ≤ room → a ≡ answer Fault.Done 0 0 (bytes_needed serial source)
  pub only_too_long : a.fault ≡ Fault.SourceTooLong → longest_source < length source
  pub only_bad_line : (k : ℕ) → a.line ≡ suc k → (length source ≤ longest_source) × FirstBad source k
  pub only_no_room : a.fault ≡ Fault.NoRoom → Accepted source × (room < bytes_needed serial source)
  pub only_done : a.fault ≡ Fault.Done → Accepted source × (bytes_needed serial source ≤ room)

unfoldable pub CompilingRefusesExactly : Type 0
CompilingRefusesExactly = (source : List ℕ) (serial room : ℕ) → RefusesExactly source serial room (compile_answer source serial room)

-- the bytes that compiling wrote: as many as it counted, at the front of the buffer
unfoldable pub compiled_bytes : List ℕ → ℕ → List ℕ → List ℕ
compiled_bytes source serial out = take (compile_answer source serial (length out)).bytes (compile_output source serial out)

-- a reply that hands out a record: its type and lifetime, and where in the bytes its data stand; "place plus length is the sum of the sizes of
-- the record handed out and of all before it"
pub record Hands (stream : List ℕ) (moment : ℕ) (p : Placed) (r : Reply) : Type 0 where
  pub place : ℕ
  pub count : ℕ
  pub found : r ≡ Reply.Found (type_of p.rec) (record { 0 = lifetime_of moment p.rec }) place count
  pub rdata : take count (drop place stream) ≡ rdata_of p.rec
  pub ends : place + count ≡ p.end

-- what stands at an ordinal is handed out; where nothing stands, 18
abbrev pub Gives : List ℕ → ℕ → Option Placed → Reply → Type 0
Gives stream moment None r = r ≡ Reply.NoMore
Gives stream moment (Some p) r = Hands stream moment p r

-- what asking says to a question over records: their outcome and list
pub record Tells (stream : List ℕ) (rs : List Record) (q : Question) (ordinal : ℕ) (r : Response) : Type 0 where
  pub outcome : r.outcome ≡ (answers q (placed_from 0 rs)).outcome
  pub list : Gives stream q.moment (slice_get (answers q (placed_from 0 rs)).list ordinal) r.reply

-- Demand 3: what the lines of an accepted source say is what asking its compiled bytes answers, outcome and list together, for every ordinal.
unfoldable pub CompilingKeepsTheMeaning : Type 0
CompilingKeepsTheMeaning =
    (source : List ℕ) (serial : ℕ) (out : List ℕ) (q : Question) (ordinal : ℕ)
    → Accepted source
    → bytes_needed serial source ≤ length out
    → T (is_wire q.name)
    → q.moment < moment_end
    → (length q.client ≡ 4) ⊎ (length q.client ≡ 16)
    → Tells (compiled_bytes source serial out) (source_records serial source) q ordinal (ask_response (compiled_bytes source serial out) q ordinal)
