-- The labels of a byte of an address.
use mathlib.Core.Path.{◌≡◌}
use mathlib.Core.List.{List, [], ◌∷◌}
use Prim.Native.Nat.{ℕ, ◌+◌, ◌/◌, ◌%◌, ◌<◌, ◌≤◌}
use native.Mathlib.Omega.{arith}
use borrow.Author.Rules.{rules}
use borrow.Author.Tests.{le-leb, lt-leb}
use Rattle.rules.specs.Lists.{pick}
use Rattle.rules.specs.Names.{label}
use Rattle.rules.specs.Records.{decimal, decimal_label, hex_digit, nibble_labels}

-- two labels of a hex digit each
pub two_nibbles : (n a b : ℕ) (r : List ℕ) → a ≡ hex_digit (n % 16) → b ≡ hex_digit (n / 16) → r ≡ 1 ∷ a ∷ 1 ∷ b ∷ [] → r ≡ nibble_labels n
unfolding nibble_labels
two_nibbles n a b r p q e = rw (e, p, q)

-- a label of three digits, of two and of one
pub three_digits : (n : ℕ) (r : List ℕ) → 99 < n → r ≡ 3 ∷ (48 + n / 100) ∷ (48 + n / 10 % 10) ∷ (48 + n % 10) ∷ [] → r ≡ decimal_label n
unfolding decimal_label decimal label pick
three_digits n r h e = rw (e, le-leb 100 n (omega arith))

pub two_digits : (n : ℕ) (r : List ℕ) → n ≤ 99 → 9 < n → r ≡ 2 ∷ (48 + n / 10) ∷ (48 + n % 10) ∷ [] → r ≡ decimal_label n
unfolding decimal_label decimal label pick
two_digits n r h k e = rw (e, lt-leb 100 n (omega arith), le-leb 10 n (omega arith))

pub one_digit : (n : ℕ) (r : List ℕ) → n ≤ 9 → r ≡ 1 ∷ (48 + n) ∷ [] → r ≡ decimal_label n
unfolding decimal_label decimal label pick
one_digit n r h e = rw (e, lt-leb 100 n (omega arith), lt-leb 10 n (omega arith))

pub ruleset label_laws = (rules, two_nibbles, three_digits, two_digits, one_digit)
