-- A fault's number against 0, which is no fault's.
use mathlib.Core.Path.{◌≡◌, refl, sym, ◌∙◌}
use mathlib.Core.Bool.{true, false}
use Prim.Native.Nat.{ℕ}
use borrow.Author.Tests.{eq-eqb, ne_eqb}
use Rattle.rules.specs.Answers.{fault_number, is_done}
use Rattle.rules.specs.declared.faults.Fault.{Fault}
use Rattle.rules.specs.declared.faults.FieldKind.{FieldKind}

module _ (f : Fault) (n : ℕ) (e : n ≡ fault_number f) where
  pub zero_done : n ≡ 0 → is_done f ≡ true
  unfolding is_done
  zero_done z = eq-eqb (fault_number f) 0 (sym e ∙ z)

  pub other_refused : (n ≡ 0 → ⊥) → is_done f ≡ false
  unfolding is_done
  other_refused h = ne_eqb (fault_number f) 0 (λ z. h (e ∙ z))

-- the same of the fault itself
pub done : (f : Fault) → f ≡ Fault.Done → is_done f ≡ true
unfolding is_done
done f e = rw e

pub not_done : (f : Fault) → (f ≡ Fault.Done → ⊥) → is_done f ≡ false
unfolding is_done
not_done Fault.Done h = absurd (h refl)
not_done Fault.SourceTooLong h = refl
not_done Fault.LineTooLong h = refl
not_done Fault.UnknownKind h = refl
not_done Fault.TooManyFields h = refl
not_done (Fault.Malformed FieldKind.Name) h = refl
not_done (Fault.Malformed FieldKind.Address) h = refl
not_done (Fault.Malformed FieldKind.Number) h = refl
not_done (Fault.Malformed FieldKind.Time) h = refl
not_done (Fault.Malformed FieldKind.Lo) h = refl
not_done (Fault.Malformed FieldKind.Escape) h = refl
not_done Fault.ReservedType h = refl
not_done (Fault.Empty k) h = refl
not_done Fault.NoRoom h = refl
