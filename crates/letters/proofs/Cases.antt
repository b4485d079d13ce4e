-- Letters, and the bytes below, between and above them.
use mathlib.Core.Path.{◌≡◌}
use mathlib.Core.Bool.{true, false}
use Prim.Native.Nat.{ℕ, ◌<◌, ◌≤◌}
use native.Mathlib.Omega.{arith}
use borrow.Author.Rules.{rules}
use borrow.Author.Tests.{le-leb, lt-leb}
use lib.Dec.{leb}
use Rattle.rules.specs.Fields.{letter}

module _ (b : ℕ) where
  pub below_letters : b < 65 → false ≡ letter b
  unfolding letter
  below_letters h = rw (lt-leb 65 b h, lt-leb 97 b (omega arith))

  pub upper_case : 65 ≤ b → b ≤ 90 → true ≡ letter b
  unfolding letter
  upper_case h k = rw (le-leb 65 b h, le-leb b 90 k)

  pub between_cases : 65 ≤ b → 90 < b → b < 97 → false ≡ letter b
  unfolding letter
  between_cases h k l = rw (le-leb 65 b h, lt-leb b 90 k, lt-leb 97 b l)

  pub lower_case : 65 ≤ b → 90 < b → 97 ≤ b → leb b 122 ≡ letter b
  unfolding letter
  lower_case h k l = rw (le-leb 65 b h, lt-leb b 90 k, le-leb 97 b l)

pub ruleset letter_laws = (below_letters, upper_case, between_cases, lower_case, rules)
