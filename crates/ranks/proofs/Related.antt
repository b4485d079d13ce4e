-- A key that can answer for a name is what the name ends in.
use mathlib.Core.Path.{◌≡◌, refl, ◌∙◌, sym}
use mathlib.Core.Bool.{Bool, true, false, not, ◌&&◌, ◌||◌}
use mathlib.Core.List.{List, [], ◌∷◌, map}
use Prim.Native.Nat.{ℕ, zero, suc, ◌+◌, ◌-◌, ◌<◌, ◌≤◌}
use native.Mathlib.Omega.{arith}
use borrow.Author.Rules.{rules}
use borrow.Author.Tests.{leb-true, not-true, not-false}
use lib.ListN.{length, get_or, take, drop, length-map, length-drop, drop_of_length-le}
use lib.Dec.{T, leb}
use Rattle.rules.specs.Lists.{pick, lower, same_bytes}
use Rattle.rules.specs.Questions.{ancestors_from, ancestors}
use Rattle.rules.proofs.Lists.{same_length}
use Rattle.wire.proofs.Parts.{tail_lent}
use Rattle.wire.proofs.Compare.{other_length_lowered, differs_lowered}
use Rattle.wire.proofs.Steps.{left_at}
use Rattle.ranks.specs.Ranks.{among, ends_in}
use Rattle.ranks.proofs.Ranking.{drop_map}

-- ---- the end of a name

module _ (n key : List ℕ) where
  whole_name : T (same_bytes key n) → T (same_bytes key (drop (length n - length key) n))
  whole_name t =
      let l : length n - length key ≡ 0 = omega (arith, same_length key n t) in
      rw l t

  one_more : (b : ℕ) → T (same_bytes key (drop (length n - length key) n)) → T (same_bytes key (drop (suc (length n) - length key) (b ∷ n)))
  one_more b t =
      let q : suc (length n) - length key ≡ suc (length n - length key) = omega (arith, same_length key (drop (length n - length key) n) t, length-drop (length n - length key) n) in
      rw q t

  either : (a b : Bool) → T (a || b) → (T a → T (same_bytes key (drop (length n - length key) n))) → (T b → T (same_bytes key (drop (length n - length key) n))) → T (same_bytes key (drop (length n - length key) n))
  either true b t f g = f tt
  either false b t f g = g t

ends_in_lem : (k : ℕ) (n key : List ℕ) → T (among key (ancestors_from k n)) → T (same_bytes key (drop (length n - length key) n))
unfolding among ancestors_from
ends_in_lem zero [] key t = absurd t
ends_in_lem zero (zero ∷ n) key t = absurd t
ends_in_lem zero (suc k ∷ n) key t = one_more n key (suc k) (ends_in_lem (suc k) n key t)
ends_in_lem (suc k) [] key t = absurd t
ends_in_lem (suc zero) (b ∷ n) key t = one_more n key b (either n key (same_bytes key n) (among key (ancestors_from zero n)) t (whole_name n key) (ends_in_lem zero n key))
ends_in_lem (suc (suc k)) (b ∷ n) key t = one_more n key b (ends_in_lem (suc k) n key t)

pub not_end : (n key : List ℕ) → ends_in n key ≡ false → false ≡ (same_bytes key n || among key (ancestors n))
unfolding ends_in
not_end n key e = go (same_bytes key n) (among key (ancestors n)) refl refl
  where
    contradicts : T (same_bytes key (drop (length n - length key) n)) → ⊥
    contradicts t = rw e at t

    go : (a b : Bool) → same_bytes key n ≡ a → among key (ancestors n) ≡ b → false ≡ (a || b)
    go false false p r = refl
    go true b p r = absurd (contradicts (whole_name n key (rw p tt)))
    go false true p r = absurd (contradicts (ends_in_lem 0 n key (unfold ancestors in rw r tt)))

-- ---- the code's tests

-- what is lowered to a byte below the letters is that byte
low_byte : (b k : ℕ) → k < 65 → k ≡ lower b → b ≡ k
unfolding lower pick
low_byte b k h e = go (leb 65 b) (leb b 90) refl e
  where
    go : (s t : Bool) → leb 65 b ≡ s → k ≡ pick (s && t) (b + 32) b → b ≡ k
    go true true q e = absurd (omega (arith, leb-true 65 b q))
    go true false q e = sym e
    go false t q e = sym e

module _ (name key : List ℕ) where
  pub longer : length name < length key → false ≡ ends_in (map lower name) key
  unfolding ends_in
  longer h =
      let l : length (map lower name) - length key ≡ 0 = omega (arith, length-map name lower) in
      rw l (other_length_lowered key name (λ e. omega arith))

  pub no_key : length key ≡ 0 → true ≡ ends_in (map lower name) key
  unfolding ends_in same_bytes
  no_key h = empty key h
    where
      empty : (key : List ℕ) → length key ≡ 0 → true ≡ same_bytes key (drop (length (map lower name) - length key) (map lower name))
      empty [] h =
          let l : length (map lower name) ≤ length (map lower name) - 0 = omega arith in
          rw (drop_of_length-le (map lower name) l)
      empty (k ∷ key) h = absurd (omega arith)

  pub first_other : length key ≤ length name → (length key ≡ 0 → ⊥) → get_or key 0 0 < 65 → (get_or name (length name - length key) 0 ≡ get_or key 0 0 → ⊥) → false ≡ ends_in (map lower name) key
  unfolding ends_in
  first_other h z f d =
      let front = length name - length key in
      let l : length key ≡ length (drop front name) = omega (arith, length-drop front name) in
      let i : front < length name = omega arith in
      let g : get_or (drop front name) 0 0 ≡ get_or name front 0 = rw (left_at name front i) in
      let q : false ≡ same_bytes key (map lower (drop front name)) =
      differs_lowered key (drop front name) 0 refl l _ (omega arith) refl (λ e. d (sym g ∙ low_byte _ _ f e)) in
      q ∙ rw (← (drop_map lower front name), length-map name lower)

  pub tail : (t : Bool) → t ≡ same_bytes key (map lower (take (length name - (length name - length key)) (drop (length name - length key) name))) → t ≡ ends_in (map lower name) key
  unfolding ends_in
  tail t q = q ∙ rw (tail_lent name (length name - length key), ← (drop_map lower (length name - length key) name), length-map name lower)

  module _ (t : Bool) (q : t ≡ ends_in (map lower name) key) where
    pub other_end : not t ≡ true → false ≡ (same_bytes key (map lower name) || among key (ancestors (map lower name)))
    other_end n = not_end (map lower name) key (sym q ∙ not-true t n)

    pub same_end : not t ≡ false → length name ≡ length key → true ≡ (same_bytes key (map lower name) || among key (ancestors (map lower name)))
    unfolding ends_in
    same_end n z =
        let l : length (map lower name) - length key ≡ 0 = omega (arith, length-map name lower) in
        let s : same_bytes key (map lower name) ≡ true = rw l at (sym q ∙ not-false t n) in
        rw s

  pub shorter_end : (u : Bool) → (length name ≡ length key → ⊥) → u ≡ among key (ancestors (map lower name)) → u ≡ (same_bytes key (map lower name) || among key (ancestors (map lower name)))
  shorter_end u z e = rw (← (other_length_lowered key name (λ e. z (sym e))), ← e)

pub ruleset end_laws = (rules, longer, no_key, first_other, tail)

pub ruleset related_laws = (rules, other_end, same_end, shorter_end)
