-- 02, W7: regional files joined, as statements about the definitions; proofs/Joining.antt proves them.
-- crates/vahmizar/specs/Joining.antt has the same of the calls.
use Rattle.std.specs.Prelude.{ℕ, suc, ◌+◌, ◌≤◌, ◌≡◌, Bool, true, ◌&&◌, List, [], ◌∷◌, ◌++◌, map, length, T, eqb}
use Rattle.rules.specs.declared.faults.Answer.{Answer}
use Rattle.rules.specs.Lists.{Each, total, pick, keep, join_all}
use Rattle.rules.specs.Kinds.{lines_of}
use Rattle.rules.specs.Bytes.{bytes_of}
use Rattle.rules.specs.Answers.{answer, longest_source, source_records, compile_answer}
use Rattle.rules.specs.Demands.{Accepted, bytes_needed, compiled_bytes}

-- "A being empty or ending in byte 10"
unfoldable pub ended : List ℕ → Bool
ended [] = true
ended (b ∷ []) = eqb b 10
ended (b ∷ c ∷ s) = ended (c ∷ s)

-- "the number of byte 10s in A"
unfoldable pub newlines : List ℕ → ℕ
newlines source = length (keep (λ b. eqb b 10) source)

-- ---- "For accepted sources A and B with the same default serial, A being empty or ending in byte 10 and the joined
-- length being within the limit, the joined source is accepted, and its records are A's followed by B's."

-- Also: their sizes add up, and the bytes written are A's followed by B's, each time with room enough.
pub record Joined (a b : List ℕ) (serial : ℕ) : Type 0 where
  pub accepted : Accepted (a ++ b)
  pub records : source_records serial (a ++ b) ≡ source_records serial a ++ source_records serial b
  pub needed : bytes_needed serial (a ++ b) ≡ bytes_needed serial a + bytes_needed serial b
  pub written :
      (outA outB out : List ℕ)
      → bytes_needed serial a ≤ length outA
      → bytes_needed serial b ≤ length outB
      → bytes_needed serial (a ++ b) ≤ length out
      → compiled_bytes (a ++ b) serial out ≡ compiled_bytes a serial outA ++ compiled_bytes b serial outB

-- Rules out: a line that looks back at the one before it; records sorted or counted over the whole source.
unfoldable pub SourcesJoin : Type 0
SourcesJoin =
    (a b : List ℕ) (serial : ℕ)
    → T (ended a)
    → length (a ++ b) ≤ longest_source
    → Accepted a
    → Accepted b
    → Joined a b serial

-- ---- "Any number joined, each but the last so ended, give their records in turn."

unfoldable pub ended_but_last : List (List ℕ) → Bool
ended_but_last [] = true
ended_but_last (s ∷ []) = true
ended_but_last (s ∷ t ∷ ss) = ended s && ended_but_last (t ∷ ss)

-- A source gives what several give in turn; it needn't be their bytes put together. The bytes of their records are
-- what compiling each of them writes, with room enough.
pub record InTurn (joined : List ℕ) (sources : List (List ℕ)) (serial : ℕ) : Type 0 where
  pub accepted : Accepted joined
  pub records : source_records serial joined ≡ join_all (map (source_records serial) sources)
  pub needed : bytes_needed serial joined ≡ total (map (bytes_needed serial) sources)
  pub written :
      (out : List ℕ) → bytes_needed serial joined ≤ length out
      → compiled_bytes joined serial out ≡ join_all (map (λ s. bytes_of (source_records serial s)) sources)

-- Rules out: a compiler that is right for two and stops at the third.
unfoldable pub AnyNumberJoin : Type 0
AnyNumberJoin =
    (sources : List (List ℕ)) (serial : ℕ)
    → T (ended_but_last sources)
    → length (join_all sources) ≤ longest_source
    → Each Accepted sources
    → InTurn (join_all sources) sources serial

-- ---- "If A is good and B is refused at line k, the joined one is refused at k plus the number of byte 10s in A,
-- with the same number, field and column."

-- an answer with so many lines added to its line; all else stays
unfoldable pub lines_down : ℕ → Answer → Answer
lines_down n a = answer a.fault (a.line + n) a.field a.bytes

-- An answer that names a line is a refusal; 02's k is `suc k` here. A line's refusal depends neither on the room nor on
-- the serial, so B has its own of each.
-- Rules out: the line of B alone; lines counted otherwise than by byte 10.
unfoldable pub RefusalsMove : Type 0
RefusalsMove =
    (a b : List ℕ) (serialB roomB serial room k : ℕ)
    → T (ended a)
    → length (a ++ b) ≤ longest_source
    → Accepted a
    → (compile_answer b serialB roomB).line ≡ suc k
    → compile_answer (a ++ b) serial room ≡ lines_down (newlines a) (compile_answer b serialB roomB)

-- ---- Files as they come: one in front of others that isn't so ended gets a byte 10. Its lines stay, so within the
-- limit all that is said of it by itself does, and of several the first that is refused at a line decides, whatever
-- stands behind it.

unfoldable pub closed : List ℕ → List ℕ
closed file = pick (ended file) file (file ++ (10 ∷ []))

unfoldable pub joined_files : List (List ℕ) → List ℕ
joined_files [] = []
joined_files (f ∷ []) = f
joined_files (f ∷ g ∷ fs) = closed f ++ joined_files (g ∷ fs)

-- Rules out: a byte added to the last file, or to one that is ended; bytes left out.
unfoldable pub EndedFilesStay : Type 0
EndedFilesStay = (files : List (List ℕ)) → T (ended_but_last files) → joined_files files ≡ join_all files

-- Rules out: a last line that runs on into the next file; an empty line added.
unfoldable pub ClosingKeepsTheLines : Type 0
ClosingKeepsTheLines = (file : List ℕ) → T (ended (closed file)) × (lines_of (closed file) ≡ lines_of file)

-- Rules out: files that are good by themselves and not together.
unfoldable pub FilesJoin : Type 0
FilesJoin =
    (files : List (List ℕ)) (serial : ℕ)
    → length (joined_files files) ≤ longest_source
    → Each Accepted files
    → InTurn (joined_files files) files serial

-- Rules out: the last refused file named, or a file that only another one spoils.
unfoldable pub TheFirstRefusalDecides : Type 0
TheFirstRefusalDecides =
    (before : List (List ℕ)) (file : List ℕ) (after : List (List ℕ)) (serialFile roomFile serial room k : ℕ)
    → length (joined_files (before ++ (file ∷ after))) ≤ longest_source
    → Each Accepted before
    → (compile_answer file serialFile roomFile).line ≡ suc k
    → compile_answer (joined_files (before ++ (file ∷ after))) serial room
    ≡ lines_down (newlines (join_all (map closed before))) (compile_answer file serialFile roomFile)
