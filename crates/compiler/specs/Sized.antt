-- A line judged, and the size of its records.
use Rattle.std.specs.Prelude.{◌≡◌, true, false, List, ℕ, ◌≤◌}
use Rattle.rules.specs.Bytes.{size_of_all}
use Rattle.rules.specs.Answers.{is_good, line_fault, line_records}
use Rattle.rules.specs.declared.faults.LineFault.{LineFault}

-- of a good line
pub record IsSize (serial : ℕ) (line : List ℕ) (size : ℕ) : Type 0 where
  pub good : is_good line ≡ true
  pub count : size ≡ size_of_all (line_records serial line)
  pub most : size ≤ 16384

-- of a bad one
pub record IsFault (line : List ℕ) (first : LineFault) : Type 0 where
  pub bad : is_good line ≡ false
  pub says : first ≡ line_fault line
