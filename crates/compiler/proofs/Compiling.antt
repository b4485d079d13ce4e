-- The laws of compiling.
use mathlib.Core.Path.{◌≡◌, refl, ap, ◌∙◌, sym}
use mathlib.Core.Bool.{Bool, true, false}
use mathlib.Core.List.{List, ◌++◌}
use Prim.Native.Nat.{ℕ, ◌<◌, ◌≤◌}
use native.Mathlib.Omega.{arith}
use borrow.Author.Rules.{rules}
use borrow.Author.Tests.{lt-ltb, le-ltb, le-leb, lt-leb}
use lib.ListN.{length, drop}
use Rattle.rules.specs.Lists.{pick, all}
use Rattle.rules.specs.Kinds.{lines_of}
use Rattle.rules.specs.Bytes.{size_of_all, bytes_of}
use Rattle.rules.specs.Answers.{is_done, is_good, longest_source, source_records, answer, judge_lines, judge_source, if_room, compile_answer, compile_output}
use Rattle.rules.specs.declared.faults.Fault.{Fault}
use Rattle.rules.specs.declared.faults.Answer.{Answer}
use Rattle.rules.proofs.Meaning.{length_bytes}
use Rattle.buffer.specs.Put.{IsPut}
use Rattle.compiler.specs.Judged.{judged_from, IsSum, IsRefusal}
use Rattle.compiler.specs.Compiled.{IsCompiled}
use Rattle.compiler.proofs.Judging.{judged_is, done_good}

-- the buffer of an answer: the bytes where it is done, and otherwise as it was
kept : (s : List ℕ) (serial : ℕ) (out : List ℕ) (a : Answer) → a ≡ compile_answer s serial (length out) → is_done a.fault ≡ false → out ≡ compile_output s serial out
unfolding compile_output pick
kept s serial out a e f = rw (← e, f)

filled : (s : List ℕ) (serial : ℕ) (out : List ℕ) (a : Answer) → a ≡ compile_answer s serial (length out) → is_done a.fault ≡ true
    → bytes_of (source_records serial s) ++ drop (length (bytes_of (source_records serial s))) out ≡ compile_output s serial out
unfolding compile_output pick
filled s serial out a e f = rw (← e, f)

module _ (s : List ℕ) (serial : ℕ) (d : List ℕ) where
  pub source_long : (r : Answer) → r ≡ answer Fault.SourceTooLong 0 0 0 → 1048576 < length s → IsCompiled s serial d d r
  source_long r q h =
      let e : answer Fault.SourceTooLong 0 0 0 ≡ compile_answer s serial (length d) =
      unfold compile_answer judge_source longest_source pick is_done answer in rw (lt-ltb 1048576 (length s) h) in
      record { answer = q ∙ e; output = kept s serial d r (q ∙ e) (rw q (unfold is_done answer in refl)) }

  -- judging is done exactly where the lines are
  lines_done : is_done (judge_lines 1 (lines_of s)).fault ≡ is_done (judged_from serial 1 0 (lines_of s)).fault
  lines_done = by (judge_lines 1 (lines_of s)) (is_done (judge_lines 1 (lines_of s)).fault) refl (judged_is serial s)
    where
      by : (j : Answer) (t : Bool) → is_done j.fault ≡ t → judged_from serial 1 0 (lines_of s) ≡ pick t (answer Fault.Done 0 0 (size_of_all (source_records serial s))) j
          → t ≡ is_done (judged_from serial 1 0 (lines_of s)).fault
      by j true q p = unfold pick in sym (ap (λ (a : Answer). is_done a.fault) p ∙ (unfold answer is_done in refl))
      by j false q p = unfold pick in sym (ap (λ (a : Answer). is_done a.fault) p ∙ q)

  module _ (short : length s ≤ 1048576) where
    answer_is : compile_answer s serial (length d) ≡ pick (is_done (judge_lines 1 (lines_of s)).fault) (if_room (size_of_all (source_records serial s)) (length d)) (judge_lines 1 (lines_of s))
    unfolding compile_answer judge_source longest_source pick
    answer_is = rw (le-ltb 1048576 (length s) short)

    pub refused : (refusal : Answer) → IsRefusal serial (lines_of s) refusal → IsCompiled s serial d d refusal
    unfolding pick
    refused refusal p =
        let q : is_done (judge_lines 1 (lines_of s)).fault ≡ false = lines_done ∙ rw p.says p.refused in
        let e : refusal ≡ compile_answer s serial (length d) = sym p.says ∙ (rw q at (judged_is serial s)) ∙ sym (rw q at answer_is) in
        record { answer = e; output = kept s serial d refusal e p.refused }

    module _ (total : ℕ) (p : IsSum serial (lines_of s) total) where
      yes : is_done (judge_lines 1 (lines_of s)).fault ≡ true
      yes = lines_done ∙ rw p.says (unfold answer is_done in refl)

      needed : total ≡ size_of_all (source_records serial s)
      unfolding pick answer
      needed = ap (λ (a : Answer). a.bytes) (sym p.says ∙ (rw yes at (judged_is serial s)))

      room_is : compile_answer s serial (length d) ≡ if_room total (length d)
      unfolding pick
      room_is = (rw yes at answer_is) ∙ rw needed

      pub all_good : all is_good (lines_of s) ≡ true
      all_good = done_good serial 1 0 (lines_of s) (rw p.says (unfold answer is_done in refl))

      no_room_with : length d < total → answer Fault.NoRoom 0 0 total ≡ compile_answer s serial (length d)
      unfolding if_room pick
      no_room_with h = sym (room_is ∙ rw (lt-leb total (length d) h))

      pub no_room : (r : Answer) → r ≡ answer Fault.NoRoom 0 0 total → length d < total → IsCompiled s serial d d r
      no_room r q h =
          let a : r ≡ compile_answer s serial (length d) = q ∙ no_room_with h in
          record { answer = a; output = kept s serial d r a (rw q (unfold answer is_done in refl)) }

      module _ (room : total ≤ length d) where
        pub bytes_fit : length (bytes_of (source_records serial s)) ≤ length d
        bytes_fit = omega (arith, needed, length_bytes (source_records serial s))

        done_with : (k : ℕ) → total ≡ k → answer Fault.Done 0 0 k ≡ compile_answer s serial (length d)
        unfolding if_room pick
        done_with k n = sym (room_is ∙ rw (le-leb total (length d) room, n))

        pub compiled : (out : List ℕ) (k : ℕ) → IsPut (bytes_of (source_records serial s)) d out k → (r : Answer) → r ≡ answer Fault.Done 0 0 k → IsCompiled s serial d out r
        compiled out k p r q =
            let a : r ≡ compile_answer s serial (length d) = q ∙ done_with k (needed ∙ sym (p.count ∙ length_bytes (source_records serial s))) in
            record { answer = a; output = p.holds ∙ filled s serial d r a (rw q (unfold answer is_done in refl)) }

pub ruleset compile_laws = (rules, source_long, refused, all_good, no_room, bytes_fit, compiled)
