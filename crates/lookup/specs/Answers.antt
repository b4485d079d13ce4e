-- The records that compiling leaves at the front of a buffer.
use Rattle.std.specs.Prelude.{◌≡◌, List, ℕ, length, Result, Ok, Err, IfOk}
use Rattle.io.specs.Counts.{IsPrefixLen}
use Rattle.rules.specs.Lists.{pick}
use Rattle.rules.specs.Answers.{is_done, compile_answer, compile_output}
use Rattle.rules.specs.declared.faults.Answer.{Answer}

-- how many bytes they are, or the refusal
unfoldable pub records_of : Answer → Result ℕ Answer
records_of a = pick (is_done a.fault) (Ok a.bytes) (Err a)

pub record IsRecords (source : List ℕ) (serial : ℕ) (out out' : List ℕ) (r : Result ℕ Answer) : Type 0 where
  pub answer : r ≡ records_of (compile_answer source serial (length out))
  pub output : out' ≡ compile_output source serial out
  pub fits : IfOk r (λ n. IsPrefixLen n out')
