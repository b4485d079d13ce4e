-- The laws of lo: a code of one or two letters.
use Rattle.std.proofs.Common.{◌≡◌, refl, ◌∙◌, sym, ℕ, ◌<◌, ◌≤◌, List, [], ◌∷◌, length, get_or, Option, Some, None, Bool, true, false, ◌&&◌, arith, rules}
use Rattle.std.proofs.lemmas.Option.{none-some}
use mathlib.Core.Bool.{and-false}
use Rattle.rules.specs.Lists.{pick}
use Rattle.rules.specs.Fields.{letter, lo_of}
use Rattle.rules.specs.declared.quantities.Lo.{Lo}
use Rattle.codes.specs.Letters.{letter_of}

module _ (b : ℕ) (r : Bool) (p : r ≡ letter b) where
  pub is : r ≡ true → Some b ≡ letter_of b
  unfolding letter_of pick
  is q = rw (← p, q) refl

  pub is_none : r ≡ false → None ≡ letter_of b
  unfolding letter_of pick
  is_none q = rw (← p, q) refl

pub ruleset letter_laws = (is, is_none, rules)

-- what a reading tells of the byte
module _ (b : ℕ) where
  said : (a : ℕ) → Some a ≡ letter_of b → (letter b ≡ true) × (b ≡ a)
  unfolding letter_of pick
  said a e = by (letter b) e
    where
      by : (u : Bool) → Some a ≡ pick u (Some b) None → (u ≡ true) × (b ≡ a)
      by true e = (refl, cc)
      by false e = absurd (none-some _ (sym e))

  refused : None ≡ letter_of b → letter b ≡ false
  unfolding letter_of pick
  refused e = by (letter b) e
    where
      by : (u : Bool) → None ≡ pick u (Some b) None → u ≡ false
      by true e = absurd (none-some _ e)
      by false e = refl

pub one : (s : List ℕ) (a : ℕ) → 1 ≤ length s → length s < 2 → Some a ≡ letter_of (get_or s 0 0) → Some (Lo.Code a 0) ≡ lo_of s
unfolding lo_of pick
one [] a h k e = absurd (omega arith)
one (b ∷ []) a h k e = let q = said b a e in rw (q.0, q.1) refl
one (b ∷ c ∷ s) a h k e = absurd (omega arith)

pub one_none : (s : List ℕ) → 1 ≤ length s → length s < 2 → None ≡ letter_of (get_or s 0 0) → None ≡ lo_of s
unfolding lo_of pick
one_none [] h k e = absurd (omega arith)
one_none (b ∷ []) h k e = rw (refused b e) refl
one_none (b ∷ c ∷ s) h k e = absurd (omega arith)

pub two : (s : List ℕ) (a d : ℕ) → 2 ≤ length s → length s < 3 → Some a ≡ letter_of (get_or s 0 0) → Some d ≡ letter_of (get_or s 1 0) → Some (Lo.Code a d) ≡ lo_of s
unfolding lo_of pick
two [] a d h k e f = absurd (omega arith)
two (b ∷ []) a d h k e f = absurd (omega arith)
two (b ∷ c ∷ []) a d h k e f = let q = said b a e in let r = said c d f in rw (q.0, q.1, r.0, r.1) refl
two (b ∷ c ∷ x ∷ s) a d h k e f = absurd (omega arith)

pub first_none : (s : List ℕ) → 2 ≤ length s → length s < 3 → None ≡ letter_of (get_or s 0 0) → None ≡ lo_of s
unfolding lo_of pick
first_none [] h k e = absurd (omega arith)
first_none (b ∷ []) h k e = absurd (omega arith)
first_none (b ∷ c ∷ []) h k e = rw (refused b e) refl
first_none (b ∷ c ∷ x ∷ s) h k e = absurd (omega arith)

pub second_none : (s : List ℕ) → 2 ≤ length s → length s < 3 → None ≡ letter_of (get_or s 1 0) → None ≡ lo_of s
unfolding lo_of pick
second_none [] h k e = absurd (omega arith)
second_none (b ∷ []) h k e = absurd (omega arith)
second_none (b ∷ c ∷ []) h k e = rw (refused c e, and-false) refl
second_none (b ∷ c ∷ x ∷ s) h k e = absurd (omega arith)

pub empty : (s : List ℕ) → length s < 1 → None ≡ lo_of s
unfolding lo_of
empty [] h = refl
empty (a ∷ s) h = absurd (omega arith)

pub long : (s : List ℕ) → 3 ≤ length s → None ≡ lo_of s
unfolding lo_of
long [] h = absurd (omega arith)
long (a ∷ []) h = absurd (omega arith)
long (a ∷ b ∷ []) h = absurd (omega arith)
long (a ∷ b ∷ c ∷ s) h = refl
