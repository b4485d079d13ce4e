-- Bytes free of A to Z, byte by byte and part by part.
use mathlib.Core.Path.{◌≡◌, refl, ap, ◌∙◌, sym}
use mathlib.Core.Bool.{Bool, true, false, not, ◌&&◌, and-true, and-false}
use mathlib.Core.List.{List, [], ◌∷◌, ◌++◌}
use Prim.Native.Nat.{ℕ, ◌+◌, ◌-◌, ◌<◌, ◌≤◌}
use native.Mathlib.Omega.{arith}
use borrow.Author.Rules.{rules}
use borrow.Author.Tests.{not-true, not-false}
use lib.Dec.{leb}
use lib.ListN.{length, get_or, take, drop, drop_of_length-le, take-append-drop}
use lib.Seq.{take-take, take-add}
use Rattle.rules.specs.Lists.{all}
use Rattle.rules.specs.Reading.{lowered}
use Rattle.wire.proofs.Steps.{left_at}
use Rattle.wire.proofs.Parts.{tail_lent}

-- none so far and none from here on is none
pub none_so_far : (part : List ℕ) → (true && lowered (drop 0 part)) ≡ lowered part
none_so_far part = refl

module _ (part : List ℕ) (i : ℕ) (low : Bool) (e : (low && lowered (drop i part)) ≡ lowered part) where
  module _ (t : Bool) (q : t ≡ (leb 65 (get_or part i 0) && leb (get_or part i 0) 90)) (h : i < length part) where
    left : (low && (not t && lowered (drop (i + 1) part))) ≡ lowered part
    unfolding lowered all
    left = rw (left_at part i h, ← q) at e

    pub upper_met : t ≡ true → (false && lowered (drop (i + 1) part)) ≡ lowered part
    upper_met y = rw (y, and-false low) at left

    pub upper_none : t ≡ false → (low && lowered (drop (i + 1) part)) ≡ lowered part
    upper_none y = rw y at left

  pub all_met : length part ≤ i → low ≡ lowered part
  unfolding lowered all
  all_met h = rw (drop_of_length-le part h, and-true) at e

pub ruleset part_laws = (rules, none_so_far, upper_met, upper_none, all_met)

-- ---- part by part

lowered_append : (a b : List ℕ) → lowered (a ++ b) ≡ (lowered a && lowered b)
unfolding lowered all
lowered_append [] b = refl
lowered_append (x ∷ a) b = go (not (leb 65 x && leb x 90)) (lowered_append a b)
  where
    go : (t : Bool) → lowered (a ++ b) ≡ (lowered a && lowered b) → (t && lowered (a ++ b)) ≡ ((t && lowered a) && lowered b)
    go true e = e
    go false e = refl

lowered_cut : (k : ℕ) (s : List ℕ) → lowered s ≡ (lowered (take k s) && lowered (drop k s))
lowered_cut k s = ap lowered (sym (take-append-drop k s)) ∙ lowered_append (take k s) (drop k s)

first_of : (a b : Bool) → (a && b) ≡ true → a ≡ true
first_of true b e = refl
first_of false b e = e

pub no_part_yet : (key : List ℕ) → lowered (take 0 key) ≡ true
unfolding lowered all
no_part_yet key = refl

module _ (key : List ℕ) (i : ℕ) (f : lowered (take i key) ≡ true) (t : Bool) where
  pub part_upper : (m : ℕ) → t ≡ lowered (take m (drop i key)) → not t ≡ true → false ≡ lowered key
  part_upper m q n = rw (lowered_cut i key, lowered_cut m (drop i key), ← q, not-true t n, f)

  pub part_lowered : t ≡ lowered (take (i + 16 - i) (drop i key)) → not t ≡ false → lowered (take (i + 16) key) ≡ true
  part_lowered q n =
      let s : i + 16 - i ≡ 16 = omega arith in
      rw (take-add i 16 key, lowered_append (take i key) (take 16 (drop i key)), f, ← s, ← q, not-false t n)

  pub last_part : (a : ℕ) → a ≡ length key - 16 → length key - i ≤ 16 → t ≡ lowered (take (length key - a) (drop a key)) → t ≡ lowered key
  last_part a s h q =
      let g : lowered (take a key) ≡ true = first_of _ _ (sym (rw (take-take a i key (omega arith)) at (lowered_cut a (take i key))) ∙ f) in
      q ∙ rw (tail_lent key a, lowered_cut a key, g)

pub ruleset lowered_laws = (rules, no_part_yet, part_upper, part_lowered, last_part)
