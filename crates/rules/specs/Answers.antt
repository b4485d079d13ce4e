-- 01, What an answer says: the numbers of faults, the order in which they are found, what compiling answers and writes.
use Rattle.std.specs.Prelude.{ℕ, suc, Bool, List, [], ◌∷◌, ◌++◌, map, length, drop, leb, ltb, eqb}
use Rattle.rules.specs.declared.faults.Fault.{Fault}
use Rattle.rules.specs.declared.faults.FieldKind.{FieldKind}
use Rattle.rules.specs.declared.faults.Answer.{Answer}
use Rattle.rules.specs.declared.faults.LineFault.{LineFault}
use Rattle.rules.specs.declared.kinds.Kind.{Kind}
use Rattle.rules.specs.declared.kinds.Meaning.{Meaning}
use Rattle.rules.specs.Lists.{pick, all, join_all, split_on}
use Rattle.rules.specs.Kinds.{lines_of, strip, ignored, kind_of, meanings, field_count, field_at}
use Rattle.rules.specs.Names.{longest_name}
use Rattle.rules.specs.Fields.{fault_of}
use Rattle.rules.specs.Records.{Record, joined_names, records_of}
use Rattle.rules.specs.Bytes.{bytes_of, size_of_all}

-- the table's numbers
abbrev pub fault_number : Fault → ℕ
fault_number Fault.Done = 0
fault_number Fault.SourceTooLong = 1
fault_number Fault.LineTooLong = 2
fault_number Fault.UnknownKind = 3
fault_number Fault.TooManyFields = 4
fault_number (Fault.Malformed FieldKind.Name) = 5
fault_number (Fault.Malformed FieldKind.Address) = 6
fault_number (Fault.Malformed FieldKind.Number) = 7
fault_number (Fault.Malformed FieldKind.Time) = 8
fault_number (Fault.Malformed FieldKind.Lo) = 9
fault_number (Fault.Malformed FieldKind.Escape) = 10
fault_number Fault.ReservedType = 11
fault_number (Fault.Empty kind) = 12
fault_number Fault.NoRoom = 13

-- the answer's numbers in the order of the table
unfoldable pub numbers_of : Answer → List ℕ
numbers_of a = fault_number a.fault ∷ a.line ∷ a.field ∷ a.bytes ∷ []

-- no fault: its number is 0
unfoldable pub is_done : Fault → Bool
is_done fault = eqb (fault_number fault) 0

unfoldable pub no_fault : LineFault
no_fault = record { fault = Fault.Done; field = 0 }

-- the first of two that is a fault
unfoldable pub then_fault : LineFault → LineFault → LineFault
then_fault first second = pick (is_done first.fault) second first

-- "then fields left to right": the fields from field i, counted from 0, on
unfoldable pub fields_fault : ℕ → List Meaning → List (List ℕ) → LineFault
unfolding no_fault
fields_fault i [] fields = no_fault
fields_fault i (m ∷ ms) fields = then_fault (record { fault = fault_of m (field_at fields i); field = suc i }) (fields_fault (suc i) ms fields)

-- "Last, a name put together from fields that is too long: 5, field 0."
unfoldable pub joined_fault : List (List ℕ) → LineFault
joined_fault names = pick (all (λ n. leb (length n) longest_name) names) no_fault (record { fault = Fault.Malformed FieldKind.Name; field = 0 })

unfoldable pub whole_line : Fault → LineFault
whole_line fault = record { fault = fault; field = 0 }

-- "each by 2, 3, 4, then fields": 3 and 4
unfoldable pub kind_fault : Kind → List (List ℕ) → LineFault
kind_fault kind fields =
    pick (eqb (field_count kind) 0) (whole_line Fault.UnknownKind)
    (pick (ltb (field_count kind) (length fields)) (whole_line Fault.TooManyFields)
    (then_fault (fields_fault 0 (meanings kind) fields) (joined_fault (joined_names kind fields))))

-- "Nothing left, or a first byte `#` or `-`: ignored. .. The rest is split at every colon"
unfoldable pub stripped_fault : List ℕ → LineFault
stripped_fault [] = no_fault
stripped_fault (k ∷ rest) = pick (ignored k) no_fault (kind_fault (kind_of k) (split_on 58 rest))

-- "A line has at most 1,024 bytes before stripping"
unfoldable pub longest_line : ℕ
longest_line = 1024

-- the fault of a line, or that it is good
unfoldable pub line_fault : List ℕ → LineFault
line_fault line = pick (ltb longest_line (length line)) (whole_line Fault.LineTooLong) (stripped_fault (strip line))

-- "A line is bad if it has a fault with a line in this table."
unfoldable pub is_good : List ℕ → Bool
is_good line = is_done (line_fault line).fault

-- the records of a good line
unfoldable pub stripped_records : ℕ → List ℕ → List Record
stripped_records serial [] = []
stripped_records serial (k ∷ rest) = pick (ignored k) [] (records_of serial (kind_of k) (split_on 58 rest))

unfoldable pub line_records : ℕ → List ℕ → List Record
line_records serial line = stripped_records serial (strip line)

-- "A source has at most 1,048,576 bytes."
unfoldable pub longest_source : ℕ
longest_source = 1048576

-- what the lines of an accepted source say, in line order
unfoldable pub source_records : ℕ → List ℕ → List Record
source_records serial source = join_all (map (line_records serial) (lines_of source))

unfoldable pub answer : Fault → ℕ → ℕ → ℕ → Answer
answer fault line field count = record { fault = fault; line = line; field = field; bytes = count }

-- "then lines from the first": the first bad line from this number on, or that there is none
unfoldable pub judge_lines : ℕ → List (List ℕ) → Answer
judge_lines number [] = answer Fault.Done 0 0 0
judge_lines number (l ∷ ls) =
    let rest = judge_lines (suc number) ls in
    pick (is_good l) rest (answer (line_fault l).fault number (line_fault l).field 0)

-- "A source is accepted if it isn't too long and no line is bad"
unfoldable pub judge_source : List ℕ → Answer
judge_source source = pick (ltb longest_source (length source)) (answer Fault.SourceTooLong 0 0 0) (judge_lines 1 (lines_of source))

-- "room is enough if that sum fits the buffer": done, or no room
unfoldable pub if_room : ℕ → ℕ → Answer
if_room needed room = pick (leb needed room) (answer Fault.Done 0 0 needed) (answer Fault.NoRoom 0 0 needed)

-- what compiling answers
unfoldable pub compile_answer : List ℕ → ℕ → ℕ → Answer
compile_answer source serial room =
    let fitted = if_room (size_of_all (source_records serial source)) room in
    pick (is_done (judge_source source).fault) fitted (judge_source source)

-- "On 0 the bytes behind the count stay; on any refusal all stay."
unfoldable pub compile_output : List ℕ → ℕ → List ℕ → List ℕ
compile_output source serial out =
    let compiled = bytes_of (source_records serial source) in
    let output = compiled ++ drop (length compiled) out in
    pick (is_done (compile_answer source serial (length out)).fault) output out
