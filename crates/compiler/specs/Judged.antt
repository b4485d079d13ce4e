-- Lines judged and their sizes summed, from a line's number and the sum of the sizes before it.
use Rattle.std.specs.Prelude.{◌≡◌, false, List, [], ◌∷◌, ℕ, suc, ◌+◌}
use Rattle.rules.specs.Lists.{pick}
use Rattle.rules.specs.Bytes.{size_of_all}
use Rattle.rules.specs.Answers.{is_good, is_done, line_fault, line_records, answer}
use Rattle.rules.specs.declared.faults.Fault.{Fault}
use Rattle.rules.specs.declared.faults.Answer.{Answer}

unfoldable pub judged_from : ℕ → ℕ → ℕ → List (List ℕ) → Answer
judged_from serial number total [] = answer Fault.Done 0 0 total
judged_from serial number total (l ∷ ls) =
    pick (is_good l) (judged_from serial (suc number) (total + size_of_all (line_records serial l)) ls)
    (answer (line_fault l).fault number (line_fault l).field 0)

-- where all are good, and where one is refused
pub record IsSum (serial : ℕ) (lines : List (List ℕ)) (total : ℕ) : Type 0 where
  pub says : judged_from serial 1 0 lines ≡ answer Fault.Done 0 0 total

pub record IsRefusal (serial : ℕ) (lines : List (List ℕ)) (refusal : Answer) : Type 0 where
  pub says : judged_from serial 1 0 lines ≡ refusal
  pub refused : is_done refusal.fault ≡ false
