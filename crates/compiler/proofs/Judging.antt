-- The laws of judging every line.
use mathlib.Core.Path.{◌≡◌, refl, ap, ◌∙◌, sym}
use mathlib.Core.Bool.{Bool, true, false, ◌&&◌}
use mathlib.Core.List.{List, [], ◌∷◌, ◌++◌, map}
use Prim.Native.Nat.{ℕ, suc, ◌+◌, ◌*◌, ◌≤◌}
use native.Mathlib.Numerals.{add-one}
use native.Mathlib.Omega.{arith}
use borrow.Author.Rules.{rules}
use lib.ListN.{length}
use Rattle.rules.specs.Lists.{pick, all, join_all}
use Rattle.rules.specs.Kinds.{lines_of}
use Rattle.rules.specs.Bytes.{size_of_all, bytes_of}
use Rattle.rules.specs.Answers.{is_done, is_good, line_fault, line_records, source_records, answer, judge_lines}
use Rattle.rules.specs.declared.faults.Fault.{Fault}
use Rattle.rules.specs.declared.faults.LineFault.{LineFault}
use Rattle.rules.proofs.Meaning.{length_bytes, sizes_add}
use Rattle.rules.proofs.Sizes.{line_short}
use Rattle.refusals.proofs.Numbers.{done, not_done}
use Rattle.buffer.specs.Put.{IsPut}
use Rattle.compiler.specs.Judged.{judged_from, IsSum, IsRefusal}
use Rattle.compiler.specs.Sized.{IsSize, IsFault}
use Rattle.compiler.proofs.Lines.{lines_few}

-- ---- one line

module _ (line : List ℕ) (first : LineFault) (e : first ≡ line_fault line) where
  good_is : is_done first.fault ≡ is_good line
  unfolding is_good
  good_is = rw e

  pub line_good : first.fault ≡ Fault.Done → is_good line ≡ true
  line_good d = sym good_is ∙ done first.fault d

  pub line_room : (serial : ℕ) (scratch : List ℕ) → first.fault ≡ Fault.Done → length scratch ≡ 16384 → length (bytes_of (line_records serial line)) ≤ length scratch
  line_room serial scratch d l = omega (arith, line_short serial line (line_good d))

  pub sized : (serial : ℕ) (before after : List ℕ) (r : ℕ) → first.fault ≡ Fault.Done → IsPut (bytes_of (line_records serial line)) before after r → IsSize serial line r
  sized serial before after r d p = record {
    good = line_good d;
    count = p.count ∙ length_bytes (line_records serial line);
    most = omega (arith, p.count, line_short serial line (line_good d));
  }

  pub faulty : (first.fault ≡ Fault.Done → ⊥) → IsFault line first
  faulty d = record { bad = sym good_is ∙ not_done first.fault d; says = e }

pub ruleset size_laws = (rules, line_good, line_room, sized, faulty)

-- ---- all lines

-- judging what is left, behind i lines and so many bytes, answers what judging all does
pub record Judging (serial : ℕ) (s : List ℕ) (left : List (List ℕ)) (i total : ℕ) : Type 0 where
  pub says : judged_from serial (suc i) total left ≡ judged_from serial 1 0 (lines_of s)
  pub few : i + length left ≤ length s
  pub small : total ≤ 16384 * i

pub begin_judging : (serial : ℕ) (s : List ℕ) (left : List (List ℕ)) → left ≡ lines_of s → Judging serial s left 0 0
begin_judging serial s left e = record { says = rw e; few = rw e (omega (arith, lines_few s)); small = omega arith }

module _ (serial : ℕ) (s : List ℕ) (left : List (List ℕ)) (i total : ℕ) (g : Judging serial s left i total) where
  pub all_judged : left ≡ [] → IsSum serial (lines_of s) total
  unfolding judged_from
  all_judged z = record { says = sym g.says ∙ rw z }

  module _ (line : List ℕ) (rest : List (List ℕ)) (q : left ≡ line ∷ rest) where
    step : judged_from serial 1 0 (lines_of s)
        ≡ pick (is_good line) (judged_from serial (suc (suc i)) (total + size_of_all (line_records serial line)) rest) (answer (line_fault line).fault (suc i) (line_fault line).field 0)
    unfolding judged_from
    step = sym g.says ∙ rw q

    pub room_left : i + 1 ≤ length s
    room_left = omega (arith, g.few, ap length q)

    pub next_line : (size : ℕ) → IsSize serial line size → Judging serial s rest (i + 1) (total + size)
    next_line size p = record {
      says = rw (add-one, p.count) (sym (step ∙ (unfold pick in rw p.good)));
      few = omega (arith, g.few, ap length q);
      small = omega (arith, g.small, p.most);
    }

    pub bad_line : (at : ℕ) → at ≡ i → (first : LineFault) → IsFault line first → IsRefusal serial (lines_of s) (record { fault = first.fault; line = at + 1; field = first.field; bytes = 0 })
    unfolding answer
    bad_line at e first p = record {
      says = rw (e, add-one, p.says) (step ∙ (unfold pick in rw p.bad));
      refused = good_is line first p.says ∙ p.bad;
    }

pub ruleset judge_laws = (rules, begin_judging, all_judged, room_left, next_line, bad_line)

-- ---- what judging answers

pub judged_from_lem : (serial number total : ℕ) (ls : List (List ℕ))
    → judged_from serial number total ls
    ≡ pick (is_done (judge_lines number ls).fault) (answer Fault.Done 0 0 (total + size_of_all (join_all (map (line_records serial) ls)))) (judge_lines number ls)
unfolding judged_from judge_lines join_all size_of_all answer
judged_from_lem serial number total [] = unfold pick is_done in ap (answer Fault.Done 0 0) (omega arith)
judged_from_lem serial number total (l ∷ ls) = by (is_good l) refl (judged_from_lem serial (suc number) (total + size_of_all (line_records serial l)) ls)
  where
    by : (t : Bool) → is_good l ≡ t
        → judged_from serial (suc number) (total + size_of_all (line_records serial l)) ls
        ≡ pick (is_done (judge_lines (suc number) ls).fault) (answer Fault.Done 0 0 (total + size_of_all (line_records serial l) + size_of_all (join_all (map (line_records serial) ls)))) (judge_lines (suc number) ls)
        → pick t (judged_from serial (suc number) (total + size_of_all (line_records serial l)) ls) (answer (line_fault l).fault number (line_fault l).field 0)
        ≡ pick (is_done (pick t (judge_lines (suc number) ls) (answer (line_fault l).fault number (line_fault l).field 0)).fault)
        (answer Fault.Done 0 0 (total + size_of_all (line_records serial l ++ join_all (map (line_records serial) ls))))
        (pick t (judge_lines (suc number) ls) (answer (line_fault l).fault number (line_fault l).field 0))
    by true g ih = unfold pick in
        let q : total + size_of_all (line_records serial l ++ join_all (map (line_records serial) ls)) ≡ total + size_of_all (line_records serial l) + size_of_all (join_all (map (line_records serial) ls)) =
        omega (arith, sizes_add (line_records serial l) (join_all (map (line_records serial) ls))) in
        rw q ih
    by false g ih = unfold pick is_good in rw g

pub judged_is : (serial : ℕ) (s : List ℕ)
    → judged_from serial 1 0 (lines_of s)
    ≡ pick (is_done (judge_lines 1 (lines_of s)).fault) (answer Fault.Done 0 0 (size_of_all (source_records serial s))) (judge_lines 1 (lines_of s))
unfolding source_records
judged_is serial s =
    let z : 0 + size_of_all (join_all (map (line_records serial) (lines_of s))) ≡ size_of_all (join_all (map (line_records serial) (lines_of s))) = omega arith in
    rw z at (judged_from_lem serial 1 0 (lines_of s))

-- where the answer is done, every line is good
pub done_good : (serial number total : ℕ) (ls : List (List ℕ)) → is_done (judged_from serial number total ls).fault ≡ true → all is_good ls ≡ true
unfolding judged_from all answer
done_good serial number total [] e = refl
done_good serial number total (l ∷ ls) e = by (is_good l) refl (done_good serial (suc number) (total + size_of_all (line_records serial l)) ls) e
  where
    by : (t : Bool) → is_good l ≡ t
        → (is_done (judged_from serial (suc number) (total + size_of_all (line_records serial l)) ls).fault ≡ true → all is_good ls ≡ true)
        → is_done (pick t (judged_from serial (suc number) (total + size_of_all (line_records serial l)) ls) (answer (line_fault l).fault number (line_fault l).field 0)).fault ≡ true
        → (t && all is_good ls) ≡ true
    by true g ih e = unfold pick in ih e
    by false g ih e = unfold pick is_good in sym g ∙ e
