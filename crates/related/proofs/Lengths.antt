-- The loop that marks the lengths of a name and its ancestors.
use mathlib.Core.Path.{◌≡◌, refl, ap, ◌∙◌, sym}
use mathlib.Core.Bool.{Bool, true, false, ◌||◌, or-false}
use mathlib.Core.List.{List, [], ◌∷◌}
use Prim.Native.Nat.{ℕ, zero, suc, ◌<◌, ◌≤◌}
use native.Mathlib.Omega.{arith}
use borrow.Author.Rules.{rules}
use borrow.Author.Tests.{eqb-true, eqb-false}
use lib.ListN.{length, get_or, drop, set, replicate, length-drop, length-set, length-replicate}
use lib.Seq.{get_or-set_same, get_or-set_other}
use lib.Dec.{eqb}
use Rattle.rules.specs.Questions.{ancestors_from, ancestors}
use Rattle.related.specs.Related.{has_length, Lengths}
use Rattle.related.proofs.Ancestors.{next_ancestor, no_ancestor}

-- the table together with the ancestors that are left
abbrev pub LengthsFrom : List Bool → List ℕ → List ℕ → Type 0
LengthsFrom table rest name =
    (k : ℕ) → (get_or table k false || has_length k (ancestors rest)) ≡ has_length k (name ∷ ancestors name)

-- one length more
marked : (table : List Bool) (j k : ℕ) → j < length table
    → get_or (set table j true) k false ≡ (eqb j k || get_or table k false)
marked table j k h = by (eqb j k) refl
  where
    by : (b : Bool) → eqb j k ≡ b → get_or (set table j true) k false ≡ (b || get_or table k false)
    by true e = rw (← (eqb-true j k e)) (get_or-set_same table j true false h)
    by false e = get_or-set_other table j k true false (λ q. eqb-false j k e (sym q))

none_marked : (n k : ℕ) → get_or (replicate n false) k false ≡ false
none_marked zero k = refl
none_marked (suc n) zero = refl
none_marked (suc n) (suc k) = none_marked n k

turned : (a b c : Bool) → ((a || b) || c) ≡ (b || (a || c))
turned true true c = refl
turned true false c = refl
turned false b c = refl

module _ (name : List ℕ) where
  pub name_marked : length name ≤ 255 → LengthsFrom (set (replicate 256 false) (length name) true) name name
  unfolding has_length
  name_marked h k =
      let l : length name < length (replicate 256 false) = omega (arith, length-replicate {A = Bool} 256 false) in
      rw (marked (replicate 256 false) (length name) k l, none_marked 256 k, or-false)

  module _ (table : List Bool) (rest : List ℕ) (e : LengthsFrom table rest name) (t : length table ≡ 256) (s : length name ≤ 255) where
    done : ancestors rest ≡ [] → Lengths table name
    unfolding has_length
    done z = record { room = omega arith; told = λ k. sym (or-false (get_or table k false)) ∙ (rw z at e k) }

    pub none_left : length rest ≡ 0 → Lengths table name
    none_left h = done (go rest h)
      where
        go : (rest : List ℕ) → length rest ≡ 0 → ancestors rest ≡ []
        go [] h = unfold ancestors ancestors_from in refl
        go (b ∷ rest) h = absurd (omega arith)

    module _ (label : ℕ) (behind : List ℕ) (here : rest ≡ label ∷ behind) where
      pub at_root : label ≡ 0 → Lengths table name
      unfolding ancestors ancestors_from
      at_root z = done (rw (here, z))

      module _ (z : label ≡ 0 → ⊥) where
        pub at_end : length behind < label → Lengths table name
        at_end k = done (rw here (no_ancestor label behind z k))

        -- the invariant of the loop, one ancestor on
        pub next_marked : label ≤ length behind → length rest ≤ 255 → (next : List ℕ) → next ≡ drop label behind
            → (length next ≤ 255) × (length (set table (length next) true) ≡ 256) × LengthsFrom (set table (length next) true) next name
        unfolding has_length
        next_marked b l next q =
            let n : length next ≤ 255 = omega (arith, ap length q, length-drop label behind, ap length here) in
            let m : length next < length table = omega arith in
            let a : ancestors rest ≡ next ∷ ancestors next = rw (here, q) (next_ancestor label behind z b) in (
              n,
              length-set table (length next) true ∙ t,
              λ k. rw (marked table (length next) k m) (turned (eqb (length next) k) (get_or table k false) _ ∙ (rw a at e k)),
            )

-- the label that is read is what stands in front
pub headed : (rest behind : List ℕ) (first label : ℕ) → rest ≡ first ∷ behind → label ≡ first → rest ≡ label ∷ behind
headed rest behind first label e q = e ∙ ap (λ (b : ℕ). b ∷ behind) (sym q)

pub all_there : (table : List Bool) (j : ℕ) → length table ≡ 256 → length (set table j true) ≡ 256
all_there table j e = length-set table j true ∙ e

pub ruleset length_laws = (rules, name_marked, at_root, at_end, next_marked, none_left, all_there)
