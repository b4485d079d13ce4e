-- Laws of numbers as bytes, over the width.
use mathlib.Core.Path.{◌≡◌, refl, ap}
use Prim.Native.Nat.{ℕ, zero, suc, ◌+◌, ◌*◌, ◌/◌, ◌%◌, ◌^◌, ◌<◌}
use native.Mathlib.Nat.{div-lt_iff_lt-mul, zero-lt-suc}
use native.Mathlib.Omega.{arith}
use mathlib.Core.List.{List, [], ◌∷◌, ◌++◌}
use lib.ListN.{length, length-append}
use Rattle.rules.specs.Lists.{le, be, from_le, from_be}

pub length_le : (w n : ℕ) → length (le w n) ≡ w
unfolding le
length_le zero n = refl
length_le (suc w) n = ap suc (length_le w (n / 256))

pub length_be : (w n : ℕ) → length (be w n) ≡ w
unfolding be
length_be zero n = refl
length_be (suc w) n = simp length-append (omega (arith, length_be w (n / 256)))

high : (w : ℕ) {n : ℕ} → n < 256 ^ suc w → n / 256 < 256 ^ w
high w h = (div-lt_iff_lt-mul (zero-lt-suc 255)).1 (omega arith)

pub from_le_lem : (w : ℕ) {n : ℕ} → n < 256 ^ w → from_le (le w n) ≡ n
unfolding le from_le
from_le_lem zero h = omega arith
from_le_lem (suc w) {n} h = omega (arith, from_le_lem w (high w h))

from_snoc : (a : ℕ) (xs : List ℕ) (b : ℕ) → from_be a (xs ++ (b ∷ [])) ≡ from_be a xs * 256 + b
unfolding from_be
from_snoc a [] b = refl
from_snoc a (x ∷ xs) b = from_snoc (a * 256 + x) xs b

pub from_be_lem : (w : ℕ) {n : ℕ} → n < 256 ^ w → from_be 0 (be w n) ≡ n
unfolding be from_be
from_be_lem zero h = omega arith
from_be_lem (suc w) {n} h = omega (arith, from_snoc 0 (be w (n / 256)) (n % 256), from_be_lem w (high w h))
