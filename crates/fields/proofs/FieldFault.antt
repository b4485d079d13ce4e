-- The laws of a field's fault, from what its reader answers.
use mathlib.Core.Path.{◌≡◌, refl, ◌∙◌}
use Rattle.std.specs.Option.{option_map}
use Rattle.std.specs.Result.{result_ok}
use Rattle.judged_names.specs.Views.{judged_of}
use mathlib.Core.Bool.{Bool, true, false}
use mathlib.Core.List.{List, [], ◌∷◌}
use Rattle.std.specs.Prelude.{Option, Some, None}
use Prim.Native.Nat.{ℕ}
use native.Mathlib.Omega.{arith}
use borrow.Author.Rules.{rules}
use lib.ListN.{length}
use Rattle.rules.specs.Lists.{pick}
use Rattle.rules.specs.Names.{NameRead, named, misnamed}
use Rattle.rules.specs.Fields.{number_of, largest_short, unless, name_fault, needed, optional, reserved, type_fault, fault_of}
use Rattle.rules.specs.declared.faults.Fault.{Fault}
use Rattle.rules.specs.declared.faults.FieldKind.{FieldKind}
use Rattle.rules.specs.declared.kinds.Meaning.{Meaning}

-- what is read tells no more than that it was read
pub unless_map : {A B : Type 0} (f : A → B) (kind : FieldKind) (r : Option A) → unless kind r ≡ unless kind (option_map f r)
unfolding unless
unless_map f kind None = refl
unless_map f kind (Some x) = refl

pub some : {A : Type 0} (kind : FieldKind) (r : Option A) (x : A) (f : Fault) → r ≡ Some x → f ≡ Fault.Done → f ≡ unless kind r
unfolding unless
some kind r x f e h = h ∙ rw e refl

pub none : {A : Type 0} (kind : FieldKind) (r : Option A) (f : Fault) → r ≡ None → f ≡ Fault.Malformed kind → f ≡ unless kind r
unfolding unless
none kind r f e h = h ∙ rw e refl

pub name_is : (x : NameRead) → unless FieldKind.Name (result_ok (judged_of x)) ≡ name_fault x
unfolding unless name_fault
name_is (named w) = refl
name_is (misnamed fault place) = refl

-- a record's type
module _ (t : List ℕ) where
  pub reserved_type : (n : ℕ) (u : Bool) → Some n ≡ number_of largest_short t → u ≡ reserved n → u ≡ true → Fault.ReservedType ≡ type_fault (number_of largest_short t)
  unfolding type_fault pick
  reserved_type n u e p q = rw (← e, ← p, q) refl

  pub free_type : (n : ℕ) (u : Bool) → Some n ≡ number_of largest_short t → u ≡ reserved n → u ≡ false → Fault.Done ≡ type_fault (number_of largest_short t)
  unfolding type_fault pick
  free_type n u e p q = rw (← e, ← p, q) refl

  pub no_type : None ≡ number_of largest_short t → Fault.Malformed FieldKind.Number ≡ type_fault (number_of largest_short t)
  unfolding type_fault
  no_type e = rw (← e) refl

-- an empty field
pub needed_empty : (t : List ℕ) (fault : Fault) (kind : FieldKind) → length t ≡ 0 → Fault.Empty kind ≡ needed kind t fault
unfolding needed
needed_empty [] fault kind h = refl
needed_empty (b ∷ t) fault kind h = absurd (omega arith)

pub needed_full : (t : List ℕ) (fault : Fault) (kind : FieldKind) → (length t ≡ 0 → ⊥) → fault ≡ needed kind t fault
unfolding needed
needed_full [] fault kind h = absurd (h refl)
needed_full (b ∷ t) fault kind h = refl

pub optional_empty : (t : List ℕ) (fault : Fault) → length t ≡ 0 → Fault.Done ≡ optional t fault
unfolding optional
optional_empty [] fault h = refl
optional_empty (b ∷ t) fault h = absurd (omega arith)

pub optional_full : (t : List ℕ) (fault : Fault) → (length t ≡ 0 → ⊥) → fault ≡ optional t fault
unfolding optional
optional_full [] fault h = absurd (h refl)
optional_full (b ∷ t) fault h = refl

-- a match on the meaning: the definition computes at the arm's meaning
pub as_meant : (m k : Meaning) (t : List ℕ) (r : Fault) → m ≡ k → r ≡ fault_of k t → r ≡ fault_of m t
as_meant m k t r e h = rw e h

-- the field's own fault stands within
pub needed_of : (t : List ℕ) (kind : FieldKind) (r f g : Fault) → r ≡ needed kind t f → f ≡ g → r ≡ needed kind t g
needed_of t kind r f g p q = rw (← q) p

pub optional_of : (t : List ℕ) (r f g : Fault) → r ≡ optional t f → f ≡ g → r ≡ optional t g
optional_of t r f g p q = rw (← q) p

pub ruleset fault_laws = (needed_empty, needed_full, optional_empty, optional_full, rules)
