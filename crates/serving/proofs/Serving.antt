-- The laws of compiling and then asking.
use mathlib.Core.Path.{◌≡◌, refl, sym, ap, ◌∙◌}
use mathlib.Core.Bool.{true, false, true≢false}
use mathlib.Core.List.{List}
use Rattle.std.specs.Prelude.{Ok, Err}
use Prim.Native.Nat.{ℕ, ◌≤◌}
use native.Mathlib.Omega.{arith}
use borrow.Author.Rules.{rules}
use lib.ListN.{length, take}
use Rattle.rules.specs.declared.faults.Answer.{Answer}
use Rattle.rules.specs.declared.faults.Fault.{Fault}
use Rattle.rules.specs.declared.replies.Response.{Response}
use Rattle.rules.specs.Lists.{pick}
use Rattle.rules.specs.Answers.{is_done, answer}
use Rattle.rules.specs.Questions.{Question}
use Rattle.rules.specs.Reading.{ask_response}
use Rattle.rules.specs.Demands.{Accepted, bytes_needed, CompilingRefusesExactly, compiled_bytes}
use Rattle.rules.proofs.Refusals.{refuses_exactly}
use Rattle.refusals.proofs.Numbers.{done, not_done}
use Rattle.wire.proofs.Parts.{front_count}
use Rattle.compiler.specs.Compiled.{IsCompiled}
use Rattle.vahmizar.specs.Promises.{served_numbers, Serves}
use Rattle.vahmizar.proofs.Kept.{is_done_lem, tells_in}

module _ (source : List ℕ) (serial : ℕ) (out out' : List ℕ) (a : Answer) (c : IsCompiled source serial out out' a) where
  -- compiling is done exactly where the source is accepted and there is room
  accepted_done : Accepted source → bytes_needed serial source ≤ length out → is_done a.fault ≡ true
  unfolding answer is_done
  accepted_done ok room = ap (λ (x : Answer). is_done x.fault) (c.answer ∙ is_done_lem source serial out ok room)

  done_accepted : a.fault ≡ Fault.Done → Accepted source × (bytes_needed serial source ≤ length out)
  unfolding CompilingRefusesExactly
  done_accepted d = (refuses_exactly source serial (length out)).only_done (ap (λ (x : Answer). x.fault) (sym c.answer) ∙ d)

  pub not_compiled : (q : Question) (ordinal : ℕ) → (a.fault ≡ Fault.Done → ⊥) → Serves source serial out q ordinal out' (Err a)
  unfolding pick served_numbers
  not_compiled q ordinal t =
      let d : is_done a.fault ≡ false = not_done a.fault t in
      record {
        served = rw (← c.answer, d);
        numbers = rw (← c.answer, d);
        output = c.output;
        meaning = λ ok room askable. absurd (true≢false (sym (accepted_done ok room) ∙ d));
      }

  module _ (t : a.fault ≡ Fault.Done) where
    is_accepted : Accepted source × (bytes_needed serial source ≤ length out)
    is_accepted = done_accepted t

    count_is : a.bytes ≡ bytes_needed serial source
    unfolding answer
    count_is = ap (λ (x : Answer). x.bytes) (c.answer ∙ is_done_lem source serial out is_accepted.0 is_accepted.1)

    pub written_fits : length out' ≡ length out → a.bytes ≤ length out'
    written_fits e = omega (arith, count_is, is_accepted.1)

    pub written_count : length out' ≡ length out → a.bytes ≡ length (take a.bytes out')
    written_count e = front_count out' a.bytes (length out') refl (written_fits e)

    pub served : (q : Question) (ordinal : ℕ) (said : Response) → said ≡ ask_response (take a.bytes out') q ordinal
        → Serves source serial out q ordinal out' (Ok said)
    unfolding pick compiled_bytes served_numbers
    served q ordinal said e =
        let d : is_done a.fault ≡ true = done a.fault t in
        record {
          served = rw (← c.answer, d, ← c.output, ← e);
          numbers = rw (← c.answer, d, ← c.output, ← e);
          output = c.output;
          meaning = λ ok room askable. (said, (refl, rw (e, count_is) (tells_in source serial out ok room out' c.output q ordinal askable)));
        }

pub ruleset serve_laws = (rules, written_fits, written_count)
