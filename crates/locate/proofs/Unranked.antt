-- Records that can't answer: they add nothing to the largest rank, and none of them is picked.
use mathlib.Core.Path.{◌≡◌, refl, ap, sym}
use mathlib.Core.List.{List, [], ◌∷◌, ◌++◌, append-nil}
use Prim.Native.Nat.{ℕ, ◌+◌, max}
use native.Mathlib.Omega.{arith}
use borrow.Author.Tests.{ne_eqb}
use Rattle.rules.specs.Lists.{pick, keep}
use Rattle.rules.specs.Records.{Record}
use Rattle.rules.specs.Bytes.{size, size_of_all}
use Rattle.rules.specs.Questions.{placed_from}
use Rattle.rules.proofs.Lists.{keep_append}
use Rattle.ranks.specs.Ranks.{largest, seen_rank}
use Rattle.ranks.specs.declared.Role.{Role}
use Rattle.picks.specs.Picks.{wanted, picked_from}
use Rattle.locate.specs.Reaches.{Unranked}

pub largest_append : (f : Record → ℕ) (xs ys : List Record) → largest f (xs ++ ys) ≡ max (largest f xs) (largest f ys)
unfolding largest
largest_append f [] ys = omega arith
largest_append f (x ∷ xs) ys = omega (arith, largest_append f xs ys)

-- one more behind them
pub one_more : (f : Record → ℕ) (xs : List Record) (r : Record) → largest f xs ≡ 0 → 0 ≡ f r → largest f (xs ++ (r ∷ [])) ≡ 0
unfolding largest
one_more f xs r e z = omega (arith, largest_append f xs (r ∷ []))

placed_append : (at : ℕ) (xs ys : List Record) → placed_from at (xs ++ ys) ≡ placed_from at xs ++ placed_from (at + size_of_all xs) ys
unfolding placed_from size_of_all
placed_append at [] ys = ap (λ (n : ℕ). placed_from n ys) (omega arith)
placed_append at (x ∷ xs) ys =
    let q : at + (size x + size_of_all xs) ≡ at + size x + size_of_all xs = omega arith in
    rw (q, placed_append (at + size x) xs ys)

module _ (type : ℕ) (role : Role) (name here : List ℕ) (moment best : ℕ) (z : best ≡ 0 → ⊥) where
  none_wanted : (at : ℕ) (rs : List Record) → largest (seen_rank role name here moment) rs ≡ 0 → keep (λ p. wanted type role name here moment best p.rec) (placed_from at rs) ≡ []
  unfolding keep placed_from wanted largest pick
  none_wanted at [] e = refl
  none_wanted at (r ∷ rs) e =
      let f : seen_rank role name here moment r ≡ 0 = omega arith in
      rw (f, ne_eqb 0 best (λ e. z (sym e))) (none_wanted (at + size r) rs (omega arith))

  pub picked_between : (ordinal : ℕ) (before between behind : List Record) → Unranked role name before → Unranked role name behind
      → picked_from type role name here moment best (size_of_all before) ordinal between ≡ picked_from type role name here moment best 0 ordinal (before ++ (between ++ behind))
  unfolding picked_from
  picked_between ordinal before between behind a b =
      let q : 0 + size_of_all before ≡ size_of_all before = omega arith in
      sym (rw (
        placed_append 0 before (between ++ behind),
        q,
        placed_append (size_of_all before) between behind,
        keep_append (λ p. wanted type role name here moment best p.rec) (placed_from 0 before) (placed_from (size_of_all before) between ++ placed_from (size_of_all before + size_of_all between) behind),
        keep_append (λ p. wanted type role name here moment best p.rec) (placed_from (size_of_all before) between) (placed_from (size_of_all before + size_of_all between) behind),
        none_wanted 0 before (a here moment),
        none_wanted (size_of_all before + size_of_all between) behind (b here moment),
        append-nil,
      ))
