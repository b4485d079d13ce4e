-- 02, W7: worked examples of files joined, as tables under one statement, `joining_examples_hold`.
use Rattle.std.specs.Prelude.{ℕ, ◌≡◌, Bool, true, false, List, [], ◌∷◌, ◌++◌, map}
use Rattle.rules.specs.Lists.{join_all}
use Rattle.rules.specs.Texts.{bytes}
use Rattle.rules.specs.Answers.{numbers_of, compile_answer}
use Rattle.rules.specs.Joining.{ended_but_last, joined_files}
use Rattle.rules.specs.Bench.{source_of}

-- files, the room lent for all, and the numbers that the joined source answers
pub record JoinedRow : Type 0 where
  pub files : List (List ℕ)
  pub room : ℕ
  pub expected : List ℕ

unfoldable pub joined : List (List ℕ) → ℕ → List ℕ → JoinedRow
joined files room expected = record { files = files; room = room; expected = expected }

unfoldable pub said_of : JoinedRow → List ℕ
said_of r = numbers_of (compile_answer (joined_files r.files) 7 r.room)

-- a file of three lines, one of them empty, whose record takes 30 bytes
unfoldable pub north : List ℕ
north = source_of ("+a:192.0.2.1" ∷ "# north" ∷ "" ∷ [])

-- as long a record, without a byte 10 behind it
unfoldable pub south : List ℕ
south = bytes "+b:192.0.2.2"

unfoldable pub joined_rows : List JoinedRow
joined_rows =
    joined [] 0 (0 ∷ 0 ∷ 0 ∷ 0 ∷ [])
    ∷ joined (north ∷ south ∷ []) 60 (0 ∷ 0 ∷ 0 ∷ 60 ∷ [])
    ∷ joined (north ∷ south ∷ []) 59 (13 ∷ 0 ∷ 0 ∷ 60 ∷ [])
    ∷ joined (north ∷ south ∷ north ∷ []) 90 (0 ∷ 0 ∷ 0 ∷ 90 ∷ [])
    -- the second file's second line, behind three of the first
    ∷ joined (north ∷ source_of ("+b:192.0.2.2" ∷ "+c:192.0.2" ∷ []) ∷ []) 60 (6 ∷ 5 ∷ 2 ∷ 0 ∷ [])
    -- behind a file that isn't ended, its last line counts
    ∷ joined (south ∷ bytes "+c:192.0.2" ∷ []) 60 (6 ∷ 2 ∷ 2 ∷ 0 ∷ [])
    -- an empty file has no line, one byte 10 is one
    ∷ joined ([] ∷ bytes "!" ∷ []) 60 (3 ∷ 1 ∷ 0 ∷ 0 ∷ [])
    ∷ joined ((10 ∷ []) ∷ [] ∷ bytes "!" ∷ []) 60 (3 ∷ 2 ∷ 0 ∷ 0 ∷ [])
    -- the first refused file decides, also where the room is too small
    ∷ joined (north ∷ bytes "!" ∷ bytes "+c:192.0.2" ∷ []) 60 (3 ∷ 4 ∷ 0 ∷ 0 ∷ [])
    ∷ joined (bytes "!" ∷ north ∷ []) 0 (3 ∷ 1 ∷ 0 ∷ 0 ∷ [])
    -- a line that begins with a blank is a line of its own
    ∷ joined (south ∷ bytes " " ∷ []) 30 (0 ∷ 0 ∷ 0 ∷ 30 ∷ [])
    -- a line that isn't ended would run on: this is what the joined bytes themselves say
    ∷ joined (join_all (south ∷ south ∷ []) ∷ []) 60 (6 ∷ 1 ∷ 2 ∷ 0 ∷ [])
    ∷ []

-- files, their bytes joined, and whether each but the last is ended
unfoldable pub joined_bytes : List (List (List ℕ) × List ℕ × Bool)
joined_bytes =
    ([], [], true)
    ∷ (south ∷ [], south, true)
    ∷ (south ∷ [] ∷ [], south ++ (10 ∷ []), false)
    ∷ ([] ∷ south ∷ [], south, true)
    ∷ (north ∷ south ∷ [], north ++ south, true)
    ∷ (south ∷ north ∷ [], south ++ (10 ∷ north), false)
    ∷ (north ∷ south ∷ south ∷ [], north ++ (south ++ (10 ∷ south)), false)
    ∷ []

pub record JoiningExamplesHold : Type 0 where
  pub answers : map said_of joined_rows ≡ map (λ r. r.expected) joined_rows
  pub bytes : map (λ r. joined_files r.0) joined_bytes ≡ map (λ r. r.1) joined_bytes
  pub ends : map (λ r. ended_but_last r.0) joined_bytes ≡ map (λ r. r.2) joined_bytes
