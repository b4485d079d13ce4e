-- What compiling answers, and what the buffer holds afterwards.
use Rattle.std.specs.Prelude.{◌≡◌, List, ℕ, length}
use Rattle.rules.specs.Answers.{compile_answer, compile_output}
use Rattle.rules.specs.declared.faults.Answer.{Answer}

pub record IsCompiled (source : List ℕ) (serial : ℕ) (out out' : List ℕ) (r : Answer) : Type 0 where
  pub answer : r ≡ compile_answer source serial (length out)
  pub output : out' ≡ compile_output source serial out
