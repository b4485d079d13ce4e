-- 02, W7, "for the compiler that exists": what calls of tinydns_compile on several sources and on the joined one have
-- to do with each other. It follows from `Compiles`, so from what each call promises by itself. The definitions are
-- those of `rules`, with the statements about sources.
use Rattle.std.specs.Prelude.{ℕ, suc, ◌+◌, ◌≤◌, ◌≡◌, List, ◌∷◌, ◌++◌, map, length, take, T}
use Rattle.rules.specs.declared.faults.Answer.{Answer}
use Rattle.rules.specs.declared.faults.Fault.{Fault}
use Rattle.rules.specs.Lists.{Each, total, join_all}
use Rattle.rules.specs.Answers.{fault_number, numbers_of, answer, longest_source, compile_answer}
use Rattle.rules.specs.Demands.{Accepted, bytes_needed}
use Rattle.rules.specs.Joining.{ended, newlines, ended_but_last, lines_down, closed, joined_files}
use Rattle.vahmizar.specs.Promises.{laid, Compiles}

-- a call of tinydns_compile, whose answer's slice has the right length: all that went in, all that came out, and its
-- promise
pub record Call (serial : ℕ) : Type 0 where
  pub source : List ℕ
  pub out : List ℕ
  pub answer : List ℕ
  pub out' : List ℕ
  pub answer' : List ℕ
  pub r : ℕ
  pub compiles : Compiles source serial out answer out' answer' r
  pub fits : length answer ≡ 32

module _ {serial : ℕ} where
  -- what a call said, as its numbers have it (`TheCallSays`)
  abbrev pub said : Call serial → Answer
  said x = compile_answer x.source serial (length x.out)

  -- the bytes that a call wrote, if it is done: as many as it counted
  abbrev pub wrote : Call serial → List ℕ
  wrote x = take (said x).bytes x.out'

  -- of several: the sum of their counts, and their bytes in turn
  abbrev pub all_counted : List (Call serial) → ℕ
  all_counted xs = total (map (λ x. (said x).bytes) xs)

  abbrev pub all_wrote : List (Call serial) → List ℕ
  all_wrote xs = join_all (map wrote xs)

  -- "enough room"
  abbrev pub Roomy : Call serial → Type 0
  Roomy x = bytes_needed serial x.source ≤ length x.out

  -- what a caller sees of a call: the number returned, and the answer's bytes
  pub record Says (x : Call serial) (a : Answer) : Type 0 where
    pub first : x.r ≡ fault_number a.fault
    pub rest : x.answer' ≡ laid (numbers_of a)

  -- z is done, with so many bytes, which are these
  pub record Done (z : Call serial) (count : ℕ) (records : List ℕ) : Type 0 where
    pub says : Says z (answer Fault.Done 0 0 count)
    pub bytes : take count z.out' ≡ records

-- z is refused as y is, which is refused at a line: with the same numbers but a line so many lines further down; its
-- buffer stays
pub record RefusedFurtherDown {serialY serial : ℕ} (lines : ℕ) (y : Call serialY) (z : Call serial) : Type 0 where
  pub refused : z.r ≡ 0 → ⊥
  pub number : z.r ≡ y.r
  pub says : Says z (lines_down lines (said y))
  pub stays : z.out' ≡ z.out

-- Rules out: another number returned than the answer's first.
unfoldable pub TheCallSays : Type 0
TheCallSays = (serial : ℕ) (x : Call serial) → Says x (said x)

-- "For accepted sources A and B with the same default serial, A being empty or ending in byte 10 and the joined
-- length being within the limit, the joined source is accepted, and its records are A's followed by B's."
-- Rules out: a compiler that carries something over from one line to the next.
unfoldable pub TheCallsJoin : Type 0
TheCallsJoin =
    (serial : ℕ) (x y z : Call serial)
    → z.source ≡ x.source ++ y.source
    → T (ended x.source)
    → length z.source ≤ longest_source
    → Accepted x.source
    → Accepted y.source
    → Roomy x
    → Roomy y
    → Roomy z
    → Done z ((said x).bytes + (said y).bytes) (wrote x ++ wrote y)

-- "Any number joined, each but the last so ended, give their records in turn."
-- Rules out: a compiler that is right for two and stops at the third.
unfoldable pub AnyNumberOfCallsJoin : Type 0
AnyNumberOfCallsJoin =
    (serial : ℕ) (xs : List (Call serial)) (z : Call serial)
    → z.source ≡ join_all (map (λ x. x.source) xs)
    → T (ended_but_last (map (λ x. x.source) xs))
    → length z.source ≤ longest_source
    → Each (λ x. Accepted x.source × Roomy x) xs
    → Roomy z
    → Done z (all_counted xs) (all_wrote xs)

-- "If A is good and B is refused at line k, the joined one is refused at k plus the number of byte 10s in A, with the
-- same number, field and column."
-- 02's k is `suc k` here. B's call may have a serial of its own: a line's refusal doesn't depend on it.
-- Rules out: the line of B alone; a line that is bad only because of what stands above it.
unfoldable pub TheCallsRefuseFurtherDown : Type 0
TheCallsRefuseFurtherDown =
    (serialB serial : ℕ) (a : List ℕ) (y : Call serialB) (z : Call serial) (k : ℕ)
    → z.source ≡ a ++ y.source
    → T (ended a)
    → length z.source ≤ longest_source
    → Accepted a
    → (said y).line ≡ suc k
    → RefusedFurtherDown (newlines a) y z

-- The same of files as they come, each compiled by a call of its own: the command writes what these calls wrote, one
-- behind the other.
-- Rules out: a file that spoils another, or whose last line runs on.
unfoldable pub TheFilesJoin : Type 0
TheFilesJoin =
    (serial : ℕ) (xs : List (Call serial)) (z : Call serial)
    → z.source ≡ joined_files (map (λ x. x.source) xs)
    → length z.source ≤ longest_source
    → Each (λ x. Accepted x.source × Roomy x) xs
    → Roomy z
    → Done z (all_counted xs) (all_wrote xs)

-- Of each refused file the command says what its own call said; of the first the joined source would say the same,
-- further down.
-- Rules out: the last refused file named; a file that is refused only together with others.
unfoldable pub TheFirstRefusedFileDecides : Type 0
TheFirstRefusedFileDecides =
    (serialY serial : ℕ) (before : List (List ℕ)) (y : Call serialY) (after : List (List ℕ)) (z : Call serial) (k : ℕ)
    → z.source ≡ joined_files (before ++ (y.source ∷ after))
    → length z.source ≤ longest_source
    → Each Accepted before
    → (said y).line ≡ suc k
    → RefusedFurtherDown (newlines (join_all (map closed before))) y z
