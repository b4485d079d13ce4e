-- What is promised of the calls, on every input; nothing is assumed of any byte. The definitions are those of `rules`.
use Rattle.std.specs.Prelude.{ℕ, ◌≤◌, ◌<◌, ◌≡◌, List, map, ◌⊎◌, length, take, T, eqb, Result, Ok, Err}
use Rattle.rules.specs.declared.faults.Answer.{Answer}
use Rattle.rules.specs.declared.replies.Response.{Response}
use Rattle.rules.specs.Lists.{pick, join_all, le}
use Rattle.rules.specs.Names.{is_wire}
use Rattle.rules.specs.Answers.{fault_number, numbers_of, is_done, source_records, compile_answer, compile_output}
use Rattle.rules.specs.Questions.{Question}
use Rattle.rules.specs.Reading.{moment_end, reply_number, response_numbers, ask_response}
use Rattle.rules.specs.Demands.{Accepted, bytes_needed, RefusesExactly, compiled_bytes, Tells}

-- an answer's numbers in its lent slice: "8 bytes each, little-endian, in the order named above"
unfoldable pub laid : List ℕ → List ℕ
laid ns = join_all (map (le 8) ns)

-- ---- Demand 1: every number and every byte of each lent buffer, whatever comes in

-- tinydns_compile: `out` and `answer` become out' and answer', and r is returned; 19 before all else, and then nothing is written.
-- Rules out: a refusal that leaves the first records of the source behind in `out`; a made-up count of bytes.
pub record Compiles (source : List ℕ) (serial : ℕ) (out answer out' answer' : List ℕ) (r : ℕ) : Type 0 where
  pub number : r ≡ pick (eqb (length answer) 32) (fault_number (compile_answer source serial (length out)).fault) 19
  pub output : out' ≡ pick (eqb (length answer) 32) (compile_output source serial out) out
  pub numbers : answer' ≡ pick (eqb (length answer) 32) (laid (numbers_of (compile_answer source serial (length out)))) answer

-- tinydns_ask: it writes to no buffer but `answer`.
-- Rules out: an answer out of a stream with a damaged record behind it; numbers left over in the answer of a refusal.
pub record Asks (records : List ℕ) (q : Question) (ordinal : ℕ) (answer answer' : List ℕ) (r : ℕ) : Type 0 where
  pub number : r ≡ pick (eqb (length answer) 48) (reply_number (ask_response records q ordinal).reply) 19
  pub numbers : answer' ≡ pick (eqb (length answer) 48) (laid (response_numbers (ask_response records q ordinal))) answer

-- ---- Demand 2, and the rule for 13: a refusal is given exactly where its cause is, and names the first bad line

-- what a call of tinydns_compile answered, read back from its numbers
pub record Answered (source : List ℕ) (serial room : ℕ) (answer' : List ℕ) (r : ℕ) : Type 0 where
  pub said : Answer
  pub first : r ≡ fault_number said.fault
  pub rest : answer' ≡ laid (numbers_of said)
  pub exactly : RefusesExactly source serial room said

-- Rules out: a compiler that refuses each source; one that compiles the first line and pretends for the rest.
unfoldable pub TheCallRefusesExactly : Type 0
TheCallRefusesExactly =
    (source : List ℕ) (serial : ℕ) (out answer out' answer' : List ℕ) (r : ℕ)
    → Compiles source serial out answer out' answer' r → length answer ≡ 32 → Answered source serial (length out) answer' r

-- ---- Demand 3: what the lines say is what asking the compiled bytes answers, for every ordinal

-- a question that asking does not refuse by itself
pub record Askable (q : Question) : Type 0 where
  pub name : T (is_wire q.name)
  pub moment : q.moment < moment_end
  pub client : (length q.client ≡ 4) ⊎ (length q.client ≡ 16)

-- what a call of tinydns_ask answered, read back from its numbers: outcome and list together
pub record Told (source : List ℕ) (serial : ℕ) (bytes : List ℕ) (q : Question) (ordinal : ℕ) (answer' : List ℕ) (r : ℕ) : Type 0 where
  pub said : Response
  pub first : r ≡ reply_number said.reply
  pub rest : answer' ≡ laid (response_numbers said)
  pub tells : Tells bytes (source_records serial source) q ordinal said

-- One claim over both calls: compiled with room enough, and asked on exactly the bytes that were written.
-- Rules out: a reader that says "no more" at once, or gives only ordinal 0 truly; a compiler and a reader that agree on wrong records.
unfoldable pub TheCallsKeepTheMeaning : Type 0
TheCallsKeepTheMeaning =
    (source : List ℕ) (serial : ℕ) (out answer out' answer' : List ℕ) (r : ℕ) (q : Question) (ordinal : ℕ) (asked asked' : List ℕ) (s : ℕ)
    → Compiles source serial out answer out' answer' r
    → length answer ≡ 32
    → Accepted source
    → bytes_needed serial source ≤ length out
    → Asks (take (bytes_needed serial source) out') q ordinal asked asked' s
    → length asked ≡ 48
    → Askable q
    → (r ≡ 0) × Told source serial (take (bytes_needed serial source) out') q ordinal asked' s

-- ---- The same over running code: compile_and_ask compiles into `out`, then asks exactly what it wrote there

-- the numbers of what was answered, by the call that answered it
unfoldable pub served_numbers : Result Response Answer → List ℕ
served_numbers (Ok response) = response_numbers response
served_numbers (Err answer) = numbers_of answer

-- Rules out: a question put to another part of `out` than was written; only the first record asked for, whatever the ordinal.
pub record Serves (source : List ℕ) (serial : ℕ) (out : List ℕ) (q : Question) (ordinal : ℕ) (out' : List ℕ) (r : Result Response Answer) : Type 0 where
  pub served :
      r ≡ pick (is_done (compile_answer source serial (length out)).fault) (Ok (ask_response (compiled_bytes source serial out) q ordinal))
      (Err (compile_answer source serial (length out)))
  pub numbers :
      served_numbers r ≡ pick (is_done (compile_answer source serial (length out)).fault) (response_numbers (ask_response (compiled_bytes source serial out) q ordinal))
      (numbers_of (compile_answer source serial (length out)))
  pub output : out' ≡ compile_output source serial out
  pub meaning :
      Accepted source → bytes_needed serial source ≤ length out → Askable q
      → (said : Response) × ((r ≡ Ok said) × Tells (take (bytes_needed serial source) out') (source_records serial source) q ordinal said)
