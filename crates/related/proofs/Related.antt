-- A key that is the name or an ancestor: by its length, then by one comparison.
use mathlib.Core.Path.{◌≡◌, ◌∙◌, sym, ap}
use mathlib.Core.Bool.{Bool, true, false, not}
use mathlib.Core.List.{List, ◌∷◌}
use Prim.Native.Nat.{ℕ, ◌-◌, ◌<◌, ◌≤◌}
use native.Mathlib.Omega.{arith}
use borrow.Author.Rules.{rules}
use borrow.Author.Tests.{not-true, not-false}
use lib.ListN.{length, get_or, take, drop}
use lib.Dec.{T}
use Rattle.rules.specs.declared.comparisons.Compared.{Compared}
use Rattle.rules.specs.Comparing.{verdict, compared}
use Rattle.rules.specs.Questions.{ancestors_from, ancestors}
use Rattle.rules.proofs.Lists.{other_length_lem}
use Rattle.wire.proofs.Parts.{tail_lent}
use Rattle.related.specs.Related.{among, related, has_length, Lengths}
use Rattle.related.proofs.Ancestors.{shorter, no_length, same_end, by_length}

module _ (table : List Bool) (name key : List ℕ) (l : Lengths table name) where
  pub longer : length name < length key → false ≡ related name key
  unfolding related among ancestors
  longer h = rw (← (other_length_lem key name (λ e. omega arith)), shorter 0 name key (omega arith))

  module _ (h : length key ≤ length name) where
    pub place_there : length key < length table
    place_there = omega (arith, l.room)

    pub no_such_length : not (get_or table (length key) false) ≡ true → false ≡ related name key
    unfolding related
    no_such_length n = sym (no_length key (name ∷ ancestors name) (sym (l.told (length key)) ∙ not-true _ n))

    pub one_compared : not (get_or table (length key) false) ≡ false → (c : Compared)
        → c ≡ compared key (take (length name - (length name - length key)) (drop (length name - length key) name))
        → c.same ≡ related name key
    unfolding compared verdict related ancestors ancestors_from
    one_compared n c q =
        let has : T (has_length (length key) (name ∷ ancestors name)) = rw (sym (l.told (length key)) ∙ not-false _ n) tt in
        ap (λ (c : Compared). c.same) q ∙ rw (tail_lent name (length name - length key))
        (same_end 0 name key h ∙ sym (by_length 1 (0 ∷ name) key has))

pub ruleset related_laws = (rules, longer, place_there, no_such_length, one_compared)
