-- The loop that compares a key with a name, pair by pair.
use mathlib.Core.Path.{◌≡◌, ◌∙◌, ap}
use mathlib.Core.Bool.{true, false}
use mathlib.Core.List.{List}
use Prim.Native.Nat.{ℕ, suc, ◌+◌, ◌<◌, ◌≤◌}
use native.Mathlib.Omega.{arith}
use borrow.Author.Rules.{rules}
use borrow.Author.Tests.{eq-eqb, ne_eqb}
use lib.ListN.{length, get_or, drop, drop_of_length-le}
use Rattle.rules.specs.declared.comparisons.Compared.{Compared}
use Rattle.rules.specs.Lists.{pick, same_bytes}
use Rattle.rules.specs.Comparing.{up_to, pairs_read, verdict, compared}
use Rattle.rules.proofs.Lists.{other_length_lem}
use Rattle.wire.proofs.Steps.{left_at}

-- what is left of both, so many pairs having been read
unfoldable pub compared_from : ℕ → List ℕ → List ℕ → Compared
compared_from i key name = verdict (same_bytes key name) (i + up_to key name)

module _ (key name : List ℕ) where
  pub skipped : (length key ≡ length name → ⊥) → record { same = false; pairs = 0 } ≡ compared key name
  unfolding compared pairs_read verdict pick
  skipped h = rw (ne_eqb (length key) (length name) h, ← (other_length_lem key name h))

  module _ (l : length key ≡ length name) where
    pub begun : compared_from 0 (drop 0 key) (drop 0 name) ≡ compared key name
    unfolding compared_from compared pairs_read verdict pick
    begun =
        let z : 0 + up_to key name ≡ up_to key name = omega arith in
        rw (eq-eqb (length key) (length name) l, z)

    module _ (i : ℕ) (e : compared_from i (drop i key) (drop i name) ≡ compared key name) where
      module _ (h : i < length key) where
        pub next_pair : get_or key i 0 ≡ get_or name i 0
            → compared_from (i + 1) (drop (i + 1) key) (drop (i + 1) name) ≡ compared key name
        unfolding compared_from up_to same_bytes pick
        next_pair q =
            let key' = drop (i + 1) key in
            let name' = drop (i + 1) name in
            let m : i + 1 + up_to key' name' ≡ i + suc (up_to key' name') = omega arith in
            ap (verdict (same_bytes key' name')) m ∙ (rw (left_at key i h, left_at name i (omega arith), eq-eqb _ _ q) at e)

        pub first_difference_lem : (get_or key i 0 ≡ get_or name i 0 → ⊥)
            → record { same = false; pairs = i + 1 } ≡ compared key name
        unfolding compared_from up_to same_bytes verdict pick
        first_difference_lem q = rw (left_at key i h, left_at name i (omega arith), ne_eqb _ _ q) at e

      pub all_pairs : length key ≤ i → i ≤ length key → record { same = true; pairs = length key } ≡ compared key name
      unfolding compared_from up_to same_bytes verdict
      all_pairs h k =
          let z : length key ≡ i + 0 = omega arith in
          ap (verdict true) z ∙ (rw (drop_of_length-le key h, drop_of_length-le name {i = i} (omega arith)) at e)

pub ruleset pair_laws = (rules, skipped, begun, next_pair, first_difference_lem, all_pairs)
