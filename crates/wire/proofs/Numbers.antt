-- Numbers as bytes: their count, and the numbers that bytes are, one byte after the other.
use mathlib.Core.Path.{◌≡◌, refl, ap}
use mathlib.Core.List.{List, [], ◌∷◌}
use Prim.Native.Nat.{ℕ, zero, suc, ◌+◌, ◌*◌, ◌/◌, ◌^◌, ◌<◌, ◌≤◌}
use native.Mathlib.Nat.{pow-suc, pow-le-pow_right}
use native.Mathlib.Numerals.{add-one}
use native.Mathlib.Omega.{arith}
use borrow.Author.Rules.{rules}
use lib.Dec.{lit<}
use lib.ListN.{length, get_or, drop, length-append, drop_of_length-le}
use mir.Val.{Fits}
use mir.Syntax.{w64}
use Rattle.rules.specs.Lists.{le, be, from_le, from_be}
use Rattle.wire.proofs.Steps.{left_at}

pub length_le : (w n : ℕ) → length (le w n) ≡ w
unfolding le
length_le zero n = refl
length_le (suc w) n = ap suc (length_le w (n / 256))

pub length_be : (w n : ℕ) → length (be w n) ≡ w
unfolding be
length_be zero n = refl
length_be (suc w) n = simp (length-append, length_be w) (add-one w)

-- what i of at most eight bytes say leaves room for one more in 64 bits
below_seven : (i v : ℕ) → v < 256 ^ i → i < 8 → v < 72057594037927936
below_seven i v h k =
    let m : i ≤ 7 = omega arith in
    omega (arith, pow-le-pow_right {n = 256} (lit< tt) m)

below_more : (i v b : ℕ) → v < 256 ^ i → b < 256 → v * 256 + b < 256 ^ (suc i)
below_more i v b h m = rw pow-suc (omega arith)

-- the highest first: behind the first i bytes, which are v
module _ (bytes : List ℕ) (i v : ℕ) (small : v < 256 ^ i) (h : i < length bytes) where
  pub be_times_fits : length bytes ≤ 8 → Fits w64 (v * 256)
  be_times_fits k = let m = below_seven i v small (omega arith) in omega arith

  pub be_sum_fits : (b : ℕ) → length bytes ≤ 8 → b < 256 → Fits w64 (v * 256 + b)
  be_sum_fits b k l = let m = below_seven i v small (omega arith) in omega arith

  pub be_below : (b : ℕ) → b < 256 → v * 256 + b < 256 ^ (i + 1)
  be_below b l = rw add-one (below_more i v b small l)

  pub be_next : (b all : ℕ) → from_be v (drop i bytes) ≡ all → b ≡ get_or bytes i 0 → from_be (v * 256 + b) (drop (i + 1) bytes) ≡ all
  unfolding from_be
  be_next b all e q = rw q (rw (left_at bytes i h) at e)

pub be_end : (bytes : List ℕ) (i v all : ℕ) → from_be v (drop i bytes) ≡ all → length bytes ≤ i → v ≡ all
unfolding from_be
be_end bytes i v all e h = rw (drop_of_length-le bytes h) at e

-- the lowest first: four bytes
pub le_four : (bytes : List ℕ) (a b c d : ℕ) → length bytes ≡ 4 → a ≡ get_or bytes 0 0 → b ≡ get_or bytes 1 0 → c ≡ get_or bytes 2 0 → d ≡ get_or bytes 3 0
    → a + b * 256 + c * 65536 + d * 16777216 ≡ from_le bytes
unfolding from_le
le_four (a' ∷ b' ∷ c' ∷ d' ∷ []) a b c d l p q r s = omega arith
le_four [] a b c d l p q r s = absurd (omega arith)
le_four (a' ∷ []) a b c d l p q r s = absurd (omega arith)
le_four (a' ∷ b' ∷ []) a b c d l p q r s = absurd (omega arith)
le_four (a' ∷ b' ∷ c' ∷ []) a b c d l p q r s = absurd (omega arith)
le_four (a' ∷ b' ∷ c' ∷ d' ∷ e ∷ more) a b c d l p q r s = absurd (omega arith)

pub ruleset from_be_laws = (rules, be_times_fits, be_sum_fits, be_below, be_next, be_end)

pub ruleset from_le_laws = (rules, le_four)
