-- The rank of a record from its key, and the loop over a name's ancestors.
use mathlib.Core.Path.{◌≡◌, refl, sym}
use mathlib.Core.Bool.{Bool, true, false, ◌||◌}
use mathlib.Core.List.{List, [], ◌∷◌, map}
use Prim.Native.Nat.{ℕ, zero, suc, ◌<◌, ◌≤◌}
use native.Mathlib.Omega.{arith}
use borrow.Author.Rules.{rules}
use lib.ListN.{length, drop, length-map}
use Rattle.rules.specs.Lists.{lower, same_bytes}
use Rattle.rules.specs.Questions.{ancestors_from, ancestors}
use Rattle.wire.proofs.Compare.{other_length}
use Rattle.ranks.specs.Ranks.{among}

-- ---- the ancestors of a name, label by label

label_passed : (k : ℕ) (n : List ℕ) → k < length n → ancestors_from (suc k) n ≡ drop (suc k) n ∷ ancestors_from 0 (drop (suc k) n)
unfolding ancestors_from
label_passed k [] h = absurd (omega arith)
label_passed zero (b ∷ n) h = refl
label_passed (suc k) (b ∷ n) h = label_passed k n (omega arith)

label_beyond : (k : ℕ) (n : List ℕ) → length n ≤ k → ancestors_from (suc k) n ≡ []
unfolding ancestors_from
label_beyond k [] h = refl
label_beyond zero (b ∷ n) h = absurd (omega arith)
label_beyond (suc k) (b ∷ n) h = label_beyond k n (omega arith)

module _ (b : ℕ) (n : List ℕ) (z : b ≡ 0 → ⊥) where
  next_ancestor : b ≤ length n → ancestors (b ∷ n) ≡ drop b n ∷ ancestors (drop b n)
  unfolding ancestors ancestors_from
  next_ancestor h = go b z h
    where
      go : (b : ℕ) → (b ≡ 0 → ⊥) → b ≤ length n → ancestors_from 0 (b ∷ n) ≡ drop b n ∷ ancestors_from 0 (drop b n)
      go zero z h = absurd (z refl)
      go (suc k) z h = label_passed k n (omega arith)

  no_ancestor : length n < b → ancestors (b ∷ n) ≡ []
  unfolding ancestors ancestors_from
  no_ancestor h = go b h
    where
      go : (b : ℕ) → length n < b → ancestors_from 0 (b ∷ n) ≡ []
      go zero h = absurd (omega arith)
      go (suc k) h = label_beyond k n (omega arith)

-- each is shorter than the name
shorter : (k : ℕ) (n key : List ℕ) → length n ≤ length key → among key (ancestors_from k n) ≡ false
unfolding among ancestors_from
shorter zero [] key h = refl
shorter zero (zero ∷ n) key h = refl
shorter zero (suc k ∷ n) key h = shorter (suc k) n key (omega arith)
shorter (suc k) [] key h = refl
shorter (suc zero) (b ∷ n) key h = rw (← (other_length key n (λ e. omega arith))) (shorter zero n key (omega arith))
shorter (suc (suc k)) (b ∷ n) key h = shorter (suc k) n key (omega arith)

-- ---- the loop

pub drop_map : (f : ℕ → ℕ) (i : ℕ) (n : List ℕ) → drop i (map f n) ≡ map f (drop i n)
drop_map f zero n = refl
drop_map f (suc i) [] = refl
drop_map f (suc i) (b ∷ n) = drop_map f i n

pub too_long_lem : (name key : List ℕ) → length name ≤ length key → false ≡ among key (ancestors (map lower name))
unfolding ancestors
too_long_lem name key h = sym (shorter 0 (map lower name) key (omega (arith, length-map name lower)))

module _ (name key rest : List ℕ) (e : among key (ancestors (map lower rest)) ≡ among key (ancestors (map lower name))) where
  module _ (first : ℕ) (behind : List ℕ) (s : rest ≡ first ∷ behind) (label : ℕ) (l : label ≡ lower first) where
    here : among key (ancestors (label ∷ map lower behind)) ≡ among key (ancestors (map lower name))
    here = rw l (rw s at e)

    pub at_root : label ≡ 0 → false ≡ among key (ancestors (map lower name))
    unfolding ancestors ancestors_from among
    at_root z = rw z at here

    module _ (z : label ≡ 0 → ⊥) where
      pub at_end : length behind < label → false ≡ among key (ancestors (map lower name))
      unfolding among
      at_end k = rw (no_ancestor label (map lower behind) z (omega (arith, length-map behind lower))) at here

      module _ (k : label ≤ length behind) (next : List ℕ) (d : next ≡ drop label behind) (t : Bool) (q : t ≡ same_bytes key (map lower next)) where
        one_or_rest : (t || among key (ancestors (map lower next))) ≡ among key (ancestors (map lower name))
        unfolding among
        one_or_rest = rw (q, d, ← (drop_map lower label behind)) (rw (next_ancestor label (map lower behind) z (omega (arith, length-map behind lower))) at here)

        pub is_one : t ≡ true → true ≡ among key (ancestors (map lower name))
        is_one y = rw y at one_or_rest

        pub not_one : t ≡ false → among key (ancestors (map lower next)) ≡ among key (ancestors (map lower name))
        not_one y = rw y at one_or_rest

  pub none_left : rest ≡ [] → false ≡ among key (ancestors (map lower name))
  unfolding ancestors ancestors_from among
  none_left h = rw h at e

pub ruleset ancestor_laws = (rules, too_long_lem, at_root, at_end, is_one, not_one, none_left)
