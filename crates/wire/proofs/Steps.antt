-- The laws that every loop over a slice uses, and those of tests.
use mathlib.Core.Path.{◌≡◌}
use mathlib.Core.List.{List, [], ◌∷◌, ◌++◌}
use Prim.Native.Nat.{ℕ, suc, ◌+◌, ◌<◌}
use native.Mathlib.Numerals.{add-one}
use borrow.Author.Rules.{rules}
use borrow.Author.Tests.{lt-ltb, le-ltb, le-leb, lt-leb, eq-eqb, ne_eqb}
use lib.ListN.{length, get_or, take, drop, set}
use lib.Seq.{drop-cons, take-suc-set, set_at, append_snoc}

-- a test of a definition, from the test that the code made: for a function whose branches are its definition's
pub ruleset tests = (lt-ltb, le-ltb, le-leb, lt-leb, eq-eqb, ne_eqb, rules)

-- what is left at i is its first element, and what is left at i + 1
pub left_at : (s : List ℕ) (i : ℕ) → i < length s → drop i s ≡ get_or s i 0 ∷ drop (i + 1) s
left_at s i h = rw (add-one, drop-cons s i 0)

-- a store behind the first n elements appends to them
pub take_put : {A : Type 0} (l : List A) (n : ℕ) (a : A) → n < length l → take (n + 1) (set l n a) ≡ take n l ++ a ∷ []
take_put l n a h = rw (add-one, take-suc-set l n a h)

-- a store at the seam of what is written and what stays
pub put_front : {A : Type 0} (x d : List A) (i : ℕ) (b : A) → length x ≡ i → i < length d → set (x ++ drop i d) i b ≡ (x ++ b ∷ []) ++ drop (i + 1) d
put_front x d i b e h = rw (add-one, drop-cons d i b h, set_at x (get_or d i b) (drop (suc i) d) b i e, append_snoc x b (drop (suc i) d))

-- an arm of a match on a number: the definition computes at the arm's number
pub at_key : {A : Type 0} (f : ℕ → A) (b k : ℕ) (x : A) → b ≡ k → x ≡ f k → x ≡ f b
at_key f b k x e h = rw e h
