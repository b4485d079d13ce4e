-- The laws of a text judged: how a turn of the loop counts one byte, and how each way out ends it.
use Rattle.std.proofs.Common.{◌≡◌, refl, ap, ◌∙◌, sym, ℕ, ◌+◌, ◌≤◌, List, length, Option, Some, None, option_map, arith}
use native.Mathlib.Nat.{add-zero, zero-add}
use Rattle.rules.specs.Fields.{onto_text, text_of}
use Rattle.escapes.specs.TextSteps.{front_of}
use Rattle.escapes.proofs.Escape.{front_says, front_shorter, front_fault, text_end}

-- what is left, behind so many bytes
pub record Counted (s left : List ℕ) (count : ℕ) : Type 0 where
  pub says : option_map length (text_of s) ≡ option_map (λ (t : List ℕ). count + length t) (text_of left)
  pub fits : count + length left ≤ length s

pub begin : (s : List ℕ) → Counted s s 0
begin s = record { says = from_none (text_of s); fits = omega arith }
  where
    from_none : (t : Option (List ℕ)) → option_map length t ≡ option_map (λ (u : List ℕ). 0 + length u) t
    from_none None = refl
    from_none (Some t) = ap Some (sym (zero-add (length t)))

more : (count b : ℕ) (t : Option (List ℕ)) → option_map (λ (u : List ℕ). count + length u) (onto_text b t) ≡ option_map (λ (u : List ℕ). count + 1 + length u) t
unfolding onto_text
more count b None = refl
more count b (Some t) = ap Some (omega arith)

module _ {s left : List ℕ} {count : ℕ} (e : Counted s left count) where
  pub counted : (b : ℕ) (rest : List ℕ) → Some (b, rest) ≡ front_of left → Counted s rest (count + 1)
  counted b rest p = record {
    says = e.says ∙ rw (front_says b rest left p) (more count b (text_of rest));
    fits = omega (arith, e.fits, front_shorter b rest left p);
  }

  pub refused : (length left ≡ 0 → ⊥) → None ≡ front_of left → None ≡ option_map length (text_of s)
  refused h p = sym (e.says ∙ rw (front_fault left h p) refl)

  pub ended : length left ≡ 0 → Some count ≡ option_map length (text_of s)
  ended h = sym (e.says ∙ rw (text_end left h, add-zero count) refl)
