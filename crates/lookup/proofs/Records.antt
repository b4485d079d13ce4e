-- The laws of records at the front of a buffer.
use mathlib.Core.Path.{◌≡◌, refl, ap, ◌∙◌}
use mathlib.Core.Bool.{Bool, true, false}
use mathlib.Core.List.{List}
use Prim.Native.Nat.{ℕ, ◌≤◌}
use native.Mathlib.Omega.{arith}
use borrow.Author.Rules.{rules}
use Rattle.std.specs.Prelude.{Ok, Err}
use borrow.Author.Tests.{leb-true}
use lib.Dec.{leb}
use lib.ListN.{length}
use Rattle.rules.specs.Lists.{pick}
use Rattle.rules.specs.Answers.{is_done, answer, judge_source, if_room, compile_answer, source_records}
use Rattle.rules.specs.Bytes.{size_of_all}
use Rattle.rules.specs.declared.faults.Fault.{Fault}
use Rattle.rules.specs.declared.faults.Answer.{Answer}
use Rattle.compiler.specs.Compiled.{IsCompiled}
use Rattle.wire.proofs.Parts.{front_count}
use Rattle.lookup.specs.Answers.{IsRecords, records_of}

-- a fault that is done and is not
both : (b : Bool) → b ≡ true → b ≡ false → ⊥
both b p q = let z : ◌≡◌ {A = ℕ} 0 1 = cc in omega arith

-- the bytes of an answer that is done fit the room
within_room : (needed room : ℕ) (a : Answer) → a ≡ if_room needed room → is_done a.fault ≡ true → a.bytes ≤ room
unfolding if_room
within_room needed room a e d = by (leb needed room) refl e
  where
    by : (t : Bool) → leb needed room ≡ t → a ≡ pick t (answer Fault.Done 0 0 needed) (answer Fault.NoRoom 0 0 needed) → a.bytes ≤ room
    by true q p = unfold pick answer in let w : a.bytes ≡ needed = ap (λ (x : Answer). x.bytes) p in omega (arith, leb-true needed room q)
    by false q p = absurd (both (is_done a.fault) d (unfold pick answer is_done in ap (λ (x : Answer). is_done x.fault) p))

pub fits : (s : List ℕ) (serial room : ℕ) (a : Answer) → a ≡ compile_answer s serial room → is_done a.fault ≡ true → a.bytes ≤ room
unfolding compile_answer
fits s serial room a e d = by (judge_source s) (is_done (judge_source s).fault) refl e
  where
    by : (j : Answer) (t : Bool) → is_done j.fault ≡ t → a ≡ pick t (if_room (size_of_all (source_records serial s)) room) j → a.bytes ≤ room
    by j true q p = within_room (size_of_all (source_records serial s)) room a (unfold pick in p) d
    by j false q p = absurd (both (is_done a.fault) d (unfold pick in ap (λ (x : Answer). is_done x.fault) p ∙ q))

module _ (s : List ℕ) (serial : ℕ) (out out' : List ℕ) (a : Answer) (e : IsCompiled s serial out out' a) where
  pub refused : is_done a.fault ≡ false → IsRecords s serial out out' (Err a)
  unfolding records_of pick
  refused q = record { answer = rw (← e.answer, q); output = e.output; fits = tt }

  pub compiled : is_done a.fault ≡ true → length out' ≡ length out → IsRecords s serial out out' (Ok a.bytes)
  unfolding records_of pick
  compiled q l =
      let b : a.bytes ≤ length out = fits s serial (length out) a e.answer q in
      record {
        answer = rw (← e.answer, q);
        output = e.output;
        fits = (omega arith, front_count out' a.bytes (length out) l b);
      }

pub ruleset records_laws = (rules, refused, compiled)
