-- The demands over the calls.
use mathlib.Core.Path.{◌≡◌, sym, ap, ◌∙◌, subst}
use mathlib.Core.List.{List}
use Prim.Native.Nat.{ℕ, ◌≤◌}
use borrow.Author.Tests.{eq-eqb}
use lib.ListN.{length, take}
use lib.Dec.{eqb}
use Rattle.rules.specs.declared.faults.Answer.{Answer}
use Rattle.rules.specs.declared.faults.Fault.{Fault}
use Rattle.rules.specs.Lists.{pick}
use Rattle.rules.specs.Answers.{fault_number, answer, source_records, compile_answer, compile_output}
use Rattle.rules.specs.Questions.{Question}
use Rattle.rules.specs.Reading.{ask_response}
use Rattle.rules.specs.Demands.{Accepted, bytes_needed, CompilingRefusesExactly, compiled_bytes, Tells, CompilingKeepsTheMeaning}
use Rattle.rules.proofs.Refusals.{refuses_exactly}
use Rattle.rules.proofs.Meaning.{keeps_the_meaning}
use Rattle.vahmizar.specs.Promises.{TheCallRefusesExactly, Askable, TheCallsKeepTheMeaning}

-- past the check of the answer's length
pub past {ℓ} : {A : Type ℓ} (n : ℕ) (s : List ℕ) (x y z : A) → length s ≡ n → x ≡ pick (eqb (length s) n) y z → x ≡ y
unfolding pick
past n s x y z h e = rw (eq-eqb _ _ h) at e

pub the_call_refuses_exactly : TheCallRefusesExactly
unfolding TheCallRefusesExactly CompilingRefusesExactly
the_call_refuses_exactly source serial out s out' s' r c h = record {
  said = compile_answer source serial (length out);
  first = past 32 s _ _ _ h c.number;
  rest = past 32 s _ _ _ h c.numbers;
  exactly = refuses_exactly source serial (length out);
}

module _ (source : List ℕ) (serial : ℕ) (out : List ℕ) (accepted : Accepted source) (room : bytes_needed serial source ≤ length out) where
  pub is_done_lem : compile_answer source serial (length out) ≡ answer Fault.Done 0 0 (bytes_needed serial source)
  unfolding CompilingRefusesExactly
  is_done_lem = (refuses_exactly source serial (length out)).done accepted room

  -- the bytes that were written: as many as are needed
  bytes_are : take (bytes_needed serial source) (compile_output source serial out) ≡ compiled_bytes source serial out
  unfolding compiled_bytes answer
  bytes_are = rw is_done_lem

  tells : (q : Question) (ordinal : ℕ) → Askable q → Tells (compiled_bytes source serial out) (source_records serial source) q ordinal (ask_response (compiled_bytes source serial out) q ordinal)
  unfolding CompilingKeepsTheMeaning
  tells q ordinal a = keeps_the_meaning source serial out q ordinal accepted room a.name a.moment a.client

  -- the same of a buffer that holds what compiling leaves
  pub tells_in : (out' : List ℕ) → out' ≡ compile_output source serial out → (q : Question) (ordinal : ℕ) → Askable q
      → Tells (take (bytes_needed serial source) out') (source_records serial source) q ordinal (ask_response (take (bytes_needed serial source) out') q ordinal)
  tells_in out' e q ordinal a =
      let same : compiled_bytes source serial out ≡ take (bytes_needed serial source) out' = sym bytes_are ∙ ap (take (bytes_needed serial source)) (sym e) in
      subst (λ (b : List ℕ). Tells b (source_records serial source) q ordinal (ask_response b q ordinal)) same (tells q ordinal a)

pub the_calls_keep_the_meaning : TheCallsKeepTheMeaning
unfolding TheCallsKeepTheMeaning answer
the_calls_keep_the_meaning source serial out s out' s' r q ordinal t t' m c h accepted room a k askable = (
  past 32 s _ _ _ h c.number ∙ ap (λ (x : Answer). fault_number x.fault) (is_done_lem source serial out accepted room),
  record {
    said = ask_response (take (bytes_needed serial source) out') q ordinal;
    first = past 48 t _ _ _ k a.number;
    rest = past 48 t _ _ _ k a.numbers;
    tells = tells_in source serial out accepted room out' (past 32 s _ _ _ h c.output) q ordinal askable;
  },
)
