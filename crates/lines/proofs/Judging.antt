-- The laws of judging a line.
use mathlib.Core.Path.{◌≡◌, refl, ◌∙◌, sym}
use mathlib.Core.Bool.{Bool, true, false}
use mathlib.Core.List.{List, ◌∷◌}
use Rattle.std.specs.Prelude.{Some, None}
use Prim.Native.Nat.{ℕ, suc, ◌+◌, ◌-◌, ◌<◌, ◌≤◌}
use native.Mathlib.Numerals.{add-one}
use borrow.Author.Rules.{rules}
use borrow.Author.Tests.{eq-eqb, ne_eqb, lt-ltb, le-ltb}
use lib.Dec.{ltb}
use lib.ListN.{length, get_or, take, drop, drop_of_length-le}
use lib.Seq.{drop-cons}
use Rattle.rules.specs.Lists.{pick, split_on}
use Rattle.rules.specs.Kinds.{ignored, kind_of, meanings, field_count, field_at}
use Rattle.rules.specs.Fields.{fault_of}
use Rattle.rules.specs.Records.{joined_names}
use Rattle.rules.specs.Answers.{is_done, no_fault, then_fault, fields_fault, joined_fault, whole_line, kind_fault, stripped_fault, longest_line, line_fault}
use Rattle.rules.specs.declared.faults.Fault.{Fault}
use Rattle.rules.specs.declared.faults.LineFault.{LineFault}
use Rattle.rules.specs.declared.kinds.Kind.{Kind}
use Rattle.rules.specs.declared.kinds.Meaning.{Meaning}
use Rattle.refusals.proofs.Numbers.{not_done}
use Rattle.rows.specs.Rows.{IsRow}
use Rattle.rows.specs.declared.rows.Row.{Row}
use Rattle.rows.proofs.Table.{count_most}
use Rattle.splits.specs.Few.{if_few}
use Rattle.splits.proofs.Splitting.{not_few, are_few, field_short}
use Rattle.kinds.specs.Strips.{IsStripped}
use Rattle.kinds.proofs.Stripping.{parted_line}

-- ---- the fields

-- the fields from field i on have the fault of all
unfoldable pub Going : List Meaning → List (List ℕ) → ℕ → Type 0
Going ms fields i = fields_fault i (drop i ms) fields ≡ fields_fault 0 ms fields

pub begin_fields : (ms : List Meaning) (fields : List (List ℕ)) → Going ms fields 0
unfolding Going
begin_fields ms fields = refl

module _ (ms : List Meaning) (fields : List (List ℕ)) (i : ℕ) (g : Going ms fields i) where
  pub all_good : length ms ≤ i → (r : LineFault) → r ≡ whole_line Fault.Done → r ≡ fields_fault 0 ms fields
  unfolding Going fields_fault no_fault whole_line
  all_good h r e = e ∙ (rw (drop_of_length-le ms {i = i} h) at g)

  module _ (f : Fault) (d : Meaning) (l : i < length ms) (p : f ≡ fault_of (get_or ms i d) (field_at fields i)) where
    step : fields_fault 0 ms fields ≡ pick (is_done f) (fields_fault (suc i) (drop (suc i) ms) fields) (record { fault = f; field = suc i })
    unfolding Going fields_fault then_fault
    step = sym g ∙ rw (drop-cons ms i d l, ← p)

    pub next_field : f ≡ Fault.Done → Going ms fields (i + 1)
    unfolding Going pick is_done
    next_field t = rw (add-one i) (sym (step ∙ rw t))

    pub first_fault : is_done f ≡ false → record { fault = f; field = i + 1 } ≡ fields_fault 0 ms fields
    unfolding pick
    first_fault t = rw (add-one i) (sym (step ∙ rw t))

pub ruleset fields_laws = (rules, begin_fields, all_good, next_field, first_fault, not_done)

-- ---- a kind

pub second_short : (s : List ℕ) (n : ℕ) (fields : List (List ℕ)) → Some fields ≡ if_few n (split_on 58 s) → length s ≤ 1024 → length (field_at fields 2) ≤ 1024
second_short s n fields e h = rw (← (are_few n (split_on 58 s) fields e).1) (field_short s 2 1024 h)

module _ (s : List ℕ) (kind : Kind) (row : Row) (e : IsRow kind row) where
  pub row_most : length row.meanings.now ≤ 11
  unfolding field_count
  row_most = rw e.meanings (count_most kind)

  pub unknown : (r : LineFault) → row.count ≡ 0 → r ≡ whole_line Fault.UnknownKind → r ≡ kind_fault kind (split_on 58 s)
  unfolding kind_fault pick
  unknown r z q = q ∙ rw (eq-eqb (field_count kind) 0 (sym e.count ∙ z))

  module _ (some : row.count ≡ 0 → ⊥) where
    known : kind_fault kind (split_on 58 s) ≡ pick (ltb (field_count kind) (length (split_on 58 s))) (whole_line Fault.TooManyFields) (then_fault (fields_fault 0 (meanings kind) (split_on 58 s)) (joined_fault (joined_names kind (split_on 58 s))))
    unfolding kind_fault pick
    known = rw (ne_eqb (field_count kind) 0 (λ z. some (e.count ∙ z)))

    pub too_many : (r : LineFault) → None ≡ if_few (field_count kind) (split_on 58 s) → r ≡ whole_line Fault.TooManyFields → r ≡ kind_fault kind (split_on 58 s)
    unfolding pick
    too_many r t q = q ∙ sym (known ∙ rw (lt-ltb (field_count kind) (length (split_on 58 s)) (not_few (field_count kind) (split_on 58 s) t)))

    module _ (fields : List (List ℕ)) (t : Some fields ≡ if_few (field_count kind) (split_on 58 s)) (first : LineFault) (f : first ≡ fields_fault 0 row.meanings.now fields) where
      enough : kind_fault kind (split_on 58 s) ≡ pick (is_done first.fault) (joined_fault (joined_names kind fields)) first
      unfolding then_fault pick
      enough =
          let few = are_few (field_count kind) (split_on 58 s) fields t in
          known ∙ rw (le-ltb (field_count kind) (length (split_on 58 s)) few.0, few.1, ← e.meanings, ← f)

      pub field_first : (first.fault ≡ Fault.Done → ⊥) → first ≡ kind_fault kind (split_on 58 s)
      unfolding pick
      field_first h = sym (enough ∙ rw (not_done first.fault h))

      pub joined_last : (r : LineFault) → first.fault ≡ Fault.Done → r ≡ joined_fault (joined_names kind fields) → r ≡ kind_fault kind (split_on 58 s)
      unfolding pick is_done
      joined_last r h q = q ∙ sym (enough ∙ rw h)

-- ---- a line

module _ (line : List ℕ) where
  pub too_long_lem : (r : LineFault) → 1024 < length line → r ≡ whole_line Fault.LineTooLong → r ≡ line_fault line
  unfolding line_fault longest_line pick
  too_long_lem r h q = q ∙ rw (lt-ltb 1024 (length line) h)

  module _ (n : ℕ) (h : length line ≤ 1024) (p : IsStripped line n) where
    stripped_is : line_fault line ≡ stripped_fault (take n line)
    unfolding line_fault longest_line pick
    stripped_is = rw (le-ltb 1024 (length line) h, ← p.left)

    pub nothing_left : (r : LineFault) → n ≡ 0 → r ≡ whole_line Fault.Done → r ≡ line_fault line
    unfolding stripped_fault no_fault whole_line
    nothing_left r z q = q ∙ sym (stripped_is ∙ rw z)

    module _ (some : n ≡ 0 → ⊥) where
      parted : take n line ≡ get_or line 0 0 ∷ take (n - 1) (drop 1 line)
      parted = parted_line line n some p.most

      pub comment : (t : Bool) (r : LineFault) → t ≡ ignored (get_or line 0 0) → t ≡ true → r ≡ whole_line Fault.Done → r ≡ line_fault line
      unfolding stripped_fault no_fault whole_line pick
      comment t r e q f = f ∙ sym (stripped_is ∙ rw (parted, ← e, q))

      pub of_kind : (t : Bool) (k : Kind) (r : LineFault) → t ≡ ignored (get_or line 0 0) → t ≡ false → k ≡ kind_of (get_or line 0 0) → r ≡ kind_fault k (split_on 58 (take (n - 1) (drop 1 line))) → r ≡ line_fault line
      unfolding stripped_fault pick
      of_kind t k r e q d f = f ∙ sym (stripped_is ∙ rw (parted, ← e, q, ← d))
