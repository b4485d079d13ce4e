-- Compiling refuses exactly where it should: every answer is one of four outcomes, and each is told by its cause.
use mathlib.Core.Path.{◌≡◌, refl, sym, subst}
use Prim.Native.Nat.{ℕ, zero, suc, ◌+◌, ◌≤◌, ◌<◌}
use native.Mathlib.Omega.{arith}
use mathlib.Core.Bool.{not}
use mathlib.Core.List.{List, [], ◌∷◌}
use Rattle.std.specs.Prelude.{Option, Some, None}
use lib.ListN.{length, get_or}
use lib.Dec.{T, leb→le, ltb→lt, nltb→le, nleb→lt, T_not}
use mir.Facts.{yes_and}
use Rattle.rules.specs.declared.faults.Fault.{Fault}
use Rattle.rules.specs.declared.faults.FieldKind.{FieldKind}
use Rattle.rules.specs.declared.faults.Answer.{Answer}
use Rattle.rules.specs.declared.faults.LineFault.{LineFault}
use Rattle.rules.specs.declared.kinds.Kind.{Kind}
use Rattle.rules.specs.declared.kinds.Meaning.{Meaning}
use Rattle.rules.specs.Lists.{pick, all, split_on}
use Rattle.rules.specs.Kinds.{lines_of, strip, kind_of, meanings, field_at}
use Rattle.rules.specs.Names.{NameRead, named, misnamed}
use Rattle.rules.specs.Fields.{unless, name_fault, needed, optional, type_fault, fault_of}
use Rattle.rules.specs.Bytes.{size_of_all}
use Rattle.rules.specs.Answers.{is_done, no_fault, then_fault, fields_fault, joined_fault, whole_line, kind_fault, stripped_fault, longest_line, line_fault, is_good, longest_source, source_records, answer, judge_lines, judge_source, if_room, compile_answer}
use Rattle.rules.specs.Demands.{bytes_needed, Accepted, line_at, FirstBad, RefusesExactly, CompilingRefusesExactly}
use Rattle.rules.proofs.Tests.{pick_ok, pick_no, and_l, and_r}

-- ---- a line's fault is none of the source's

abbrev OfLine : Fault → Type 0
OfLine Fault.Done = Unit {0}
OfLine Fault.SourceTooLong = ⊥
OfLine Fault.LineTooLong = Unit {0}
OfLine Fault.UnknownKind = Unit {0}
OfLine Fault.TooManyFields = Unit {0}
OfLine (Fault.Malformed kind) = Unit {0}
OfLine Fault.ReservedType = Unit {0}
OfLine (Fault.Empty kind) = Unit {0}
OfLine Fault.NoRoom = ⊥

abbrev OfLineAt : LineFault → Type 0
OfLineAt f = OfLine f.fault

unless_line : {A : Type 0} (k : FieldKind) (o : Option A) → OfLine (unless k o)
unfolding unless
unless_line k None = tt
unless_line k (Some v) = tt

name_line : (r : NameRead) → OfLine (name_fault r)
unfolding name_fault
name_line (named w) = tt
name_line (misnamed f p) = tt

needed_line : (k : FieldKind) (t : List ℕ) (f : Fault) → OfLine f → OfLine (needed k t f)
unfolding needed
needed_line k [] f h = tt
needed_line k (b ∷ t) f h = h

optional_line : (t : List ℕ) (f : Fault) → OfLine f → OfLine (optional t f)
unfolding optional
optional_line [] f h = tt
optional_line (b ∷ t) f h = h

type_line : (o : Option ℕ) → OfLine (type_fault o)
unfolding type_fault
type_line None = tt
type_line (Some n) = pick_ok OfLine _ (λ t. tt) (λ t. tt)

field_line : (m : Meaning) (t : List ℕ) → OfLine (fault_of m t)
unfolding fault_of
field_line Meaning.Owner t = name_line _
field_line Meaning.Target t = needed_line _ t _ (name_line _)
field_line Meaning.HostPart t = name_line _
field_line Meaning.Address t = needed_line _ t _ (unless_line _ _)
field_line Meaning.OptionalAddress t = optional_line t _ (unless_line _ _)
field_line Meaning.Short t = optional_line t _ (unless_line _ _)
field_line Meaning.Long t = optional_line t _ (unless_line _ _)
field_line Meaning.Port t = needed_line _ t _ (unless_line _ _)
field_line Meaning.RecordType t = needed_line _ t _ (type_line _)
field_line Meaning.Ttl t = optional_line t _ (unless_line _ _)
field_line Meaning.Time t = optional_line t _ (unless_line _ _)
field_line Meaning.Lo t = optional_line t _ (unless_line _ _)
field_line Meaning.LocationLo t = needed_line _ t _ (unless_line _ _)
field_line Meaning.Prefix t = unless_line _ _
field_line Meaning.Text t = unless_line _ _

then_line : (a b : LineFault) → OfLineAt a → OfLineAt b → OfLineAt (then_fault a b)
unfolding then_fault
then_line a b h k = pick_ok OfLineAt _ (λ t. k) (λ t. h)

fields_line : (i : ℕ) (ms : List Meaning) (fields : List (List ℕ)) → OfLineAt (fields_fault i ms fields)
unfolding fields_fault
fields_line i [] fields = tt
fields_line i (m ∷ ms) fields = then_line _ _ (field_line m (field_at fields i)) (fields_line (suc i) ms fields)

kind_line : (k : Kind) (fields : List (List ℕ)) → OfLineAt (kind_fault k fields)
unfolding kind_fault whole_line joined_fault no_fault
kind_line k fields =
    pick_ok OfLineAt _ (λ t. tt)
    (λ t. pick_ok OfLineAt _ (λ u. tt) (λ u. then_line _ _ (fields_line 0 (meanings k) fields) (pick_ok OfLineAt _ (λ v. tt) (λ v. tt))))

stripped_line : (l : List ℕ) → OfLineAt (stripped_fault l)
unfolding stripped_fault no_fault
stripped_line [] = tt
stripped_line (k ∷ rest) = pick_ok OfLineAt _ (λ t. tt) (λ t. kind_line (kind_of k) (split_on 58 rest))

line_line : (l : List ℕ) → OfLineAt (line_fault l)
unfolding line_fault whole_line
line_line l = pick_ok OfLineAt _ (λ t. tt) (λ t. stripped_line (strip l))

-- ---- the first bad line

abbrev FirstBadOf : List (List ℕ) → ℕ → Type 0
FirstBadOf ls k = T (not (is_good (get_or ls k []))) × ((j : ℕ) → j < k → T (is_good (get_or ls j [])))

-- the lines from number n on are all good, or the first bad one is named
data Judged (n : ℕ) (ls : List (List ℕ)) : Answer → Type 0 where
  good : T (all is_good ls) → Judged n ls (answer Fault.Done 0 0 0)
  bad : (k m : ℕ) → m ≡ n + k → FirstBadOf ls k → Judged n ls (answer (line_fault (get_or ls k [])).fault m (line_fault (get_or ls k [])).field 0)

further : (n : ℕ) (l : List ℕ) (ls : List (List ℕ)) {a : Answer} → T (is_good l) → Judged (suc n) ls a → Judged n (l ∷ ls) a
unfolding all
further n l ls g (good h) = good (yes_and (is_good l) (all is_good ls) g h)
further n l ls g (bad k m e (b, before)) = bad (suc k) m (omega arith) (b, elim [ zero ↦ λ h. g | suc j ↦ λ h. before j (omega arith) ])

judged : (n : ℕ) (ls : List (List ℕ)) → Judged n ls (judge_lines n ls)
unfolding judge_lines all
judged n [] = good tt
judged n (l ∷ ls) =
    let rest = judged (suc n) ls in
    pick_ok (Judged n (l ∷ ls)) (is_good l) (λ t. further n l ls t rest) (λ t. bad 0 n (omega arith) (t, λ j h. absurd (omega arith)))

-- ---- the outcomes of compiling

data Outcome (source : List ℕ) (serial room : ℕ) : Answer → Type 0 where
  long : longest_source < length source → Outcome source serial room (answer Fault.SourceTooLong 0 0 0)
  bad_line :
      (k m : ℕ) → m ≡ suc k → length source ≤ longest_source → FirstBadOf (lines_of source) k
      → Outcome source serial room (answer (line_fault (get_or (lines_of source) k [])).fault m (line_fault (get_or (lines_of source) k [])).field 0)
  full : length source ≤ longest_source → T (all is_good (lines_of source)) → room < size_of_all (source_records serial source) → Outcome source serial room (answer Fault.NoRoom 0 0 (size_of_all (source_records serial source)))
  fits : length source ≤ longest_source → T (all is_good (lines_of source)) → size_of_all (source_records serial source) ≤ room → Outcome source serial room (answer Fault.Done 0 0 (size_of_all (source_records serial source)))

module _ (source : List ℕ) (serial room : ℕ) where
  roomy : length source ≤ longest_source → T (all is_good (lines_of source)) → Outcome source serial room (if_room (size_of_all (source_records serial source)) room)
  unfolding if_room
  roomy s g = pick_ok (Outcome source serial room) _ (λ t. fits s g (leb→le _ _ t)) (λ t. full s g (nleb→lt _ _ t))

  bad_outcome : (k m : ℕ) → m ≡ suc k → length source ≤ longest_source → FirstBadOf (lines_of source) k → (other : Answer)
      → Outcome source serial room (pick (is_done (line_fault (get_or (lines_of source) k [])).fault) other (answer (line_fault (get_or (lines_of source) k [])).fault m (line_fault (get_or (lines_of source) k [])).field 0))
  unfolding is_good
  bad_outcome k m e s b other = subst (Outcome source serial room) (sym (pick_no _ _ _ b.0)) (bad_line k m e s b)

  then_roomy : {a : Answer} → length source ≤ longest_source → Judged 1 (lines_of source) a
      → Outcome source serial room (pick (is_done a.fault) (if_room (size_of_all (source_records serial source)) room) a)
  unfolding answer
  then_roomy s (good g) = unfold is_done pick in roomy s g
  then_roomy s (bad k m e b) = bad_outcome k m (omega arith) s b _

  outcome : Outcome source serial room (compile_answer source serial room)
  unfolding compile_answer judge_source
  outcome =
      pick_ok (λ (a : Answer). Outcome source serial room (pick (is_done a.fault) (if_room (size_of_all (source_records serial source)) room) a)) _
      (λ t. unfold answer is_done pick in long (ltb→lt _ _ t))
      (λ t. then_roomy (nltb→le _ _ t) (judged 1 (lines_of source)))

-- ---- each outcome by its cause, and each cause by its outcome

bad_not_done : (l : List ℕ) → T (not (is_good l)) → (line_fault l).fault ≡ Fault.Done → ⊥
unfolding is_good is_done
bad_not_done l t e = subst (λ (f : Fault). T (not (is_done f))) e t

line_not_long : (f : Fault) → OfLine f → f ≡ Fault.SourceTooLong → ⊥
line_not_long f h e = subst OfLine e h

line_not_full : (f : Fault) → OfLine f → f ≡ Fault.NoRoom → ⊥
line_not_full f h e = subst OfLine e h

-- two first bad lines are one
same_first : (ls : List (List ℕ)) (j k : ℕ) → FirstBadOf ls j → FirstBadOf ls k → j ≡ k
same_first ls j k a b =
    let p : ¬ (j < k) = (λ h. T_not (is_good (get_or ls j [])) a.0 (b.1 j h)) in
    let q : ¬ (k < j) = (λ h. T_not (is_good (get_or ls k [])) b.0 (a.1 k h)) in
    omega arith

-- no line is bad where all are good
all_good : (ls : List (List ℕ)) (k : ℕ) → T (all is_good ls) → T (is_good (get_or ls k []))
unfolding all
all_good [] k t = unfold is_good line_fault stripped_fault no_fault strip is_done pick longest_line in tt
all_good (l ∷ ls) zero t = and_l (is_good l) (all is_good ls) t
all_good (l ∷ ls) (suc k) t = all_good ls k (and_r (is_good l) (all is_good ls) t)

-- two faults that differ
done_full : ◌≡◌ {A = Fault} Fault.Done Fault.NoRoom → ⊥
done_full e = let z : ◌≡◌ {A = ℕ} 0 1 = cc in omega arith

done_long : ◌≡◌ {A = Fault} Fault.Done Fault.SourceTooLong → ⊥
done_long e = let z : ◌≡◌ {A = ℕ} 0 1 = cc in omega arith

full_long : ◌≡◌ {A = Fault} Fault.NoRoom Fault.SourceTooLong → ⊥
full_long e = let z : ◌≡◌ {A = ℕ} 0 1 = cc in omega arith

module _ (source : List ℕ) (serial room : ℕ) where
  no_bad : (k : ℕ) → T (all is_good (lines_of source)) → T (not (is_good (get_or (lines_of source) k []))) → ⊥
  no_bad k g b = T_not (is_good (get_or (lines_of source) k [])) b (all_good (lines_of source) k g)

  exactly : {a : Answer} → Outcome source serial room a → RefusesExactly source serial room a
  unfolding Accepted FirstBad line_at bytes_needed answer
  exactly (long h) = record {
    too_long = λ g. refl;
    bad_line = λ k s b. absurd (omega arith);
    no_room = λ g r. absurd (omega (arith, g.0));
    done = λ g r. absurd (omega (arith, g.0));
    only_too_long = λ q. h;
    only_bad_line = λ k q. absurd (omega arith);
    only_no_room = λ q. absurd (full_long (sym q));
    only_done = λ q. absurd (done_long (sym q));
  }
  exactly (bad_line k m p s b) = record {
    too_long = λ g. absurd (omega arith);
    bad_line = λ j s' b'. rw (p, same_first (lines_of source) k j b b');
    no_room = λ g r. absurd (no_bad k g.1 b.0);
    done = λ g r. absurd (no_bad k g.1 b.0);
    only_too_long = λ q. absurd (line_not_long _ (line_line (get_or (lines_of source) k [])) q);
    only_bad_line = λ j q. let same : k ≡ j = omega arith in (s, subst (FirstBadOf (lines_of source)) same b);
    only_no_room = λ q. absurd (line_not_full _ (line_line (get_or (lines_of source) k [])) q);
    only_done = λ q. absurd (bad_not_done (get_or (lines_of source) k []) b.0 q);
  }
  exactly (full s g r) = record {
    too_long = λ h. absurd (omega arith);
    bad_line = λ k s' b. absurd (no_bad k g b.0);
    no_room = λ h r'. refl;
    done = λ h r'. absurd (omega arith);
    only_too_long = λ q. absurd (full_long q);
    only_bad_line = λ k q. absurd (omega arith);
    only_no_room = λ q. ((s, g), r);
    only_done = λ q. absurd (done_full (sym q));
  }
  exactly (fits s g r) = record {
    too_long = λ h. absurd (omega arith);
    bad_line = λ k s' b. absurd (no_bad k g b.0);
    no_room = λ h r'. absurd (omega arith);
    done = λ h r'. refl;
    only_too_long = λ q. absurd (done_long q);
    only_bad_line = λ k q. absurd (omega arith);
    only_no_room = λ q. absurd (done_full q);
    only_done = λ q. ((s, g), r);
  }

pub refuses_exactly : CompilingRefusesExactly
unfolding CompilingRefusesExactly
refuses_exactly source serial room = exactly source serial room (outcome source serial room)
