-- The laws of digits: a byte's value, and the number that digits say.
use Rattle.std.proofs.Common.{◌≡◌, refl, ap, ◌∙◌, sym, ℕ, suc, ◌+◌, ◌*◌, ◌-◌, ◌^◌, ◌<◌, ◌≤◌, List, [], ◌∷◌, length, get_or, drop, Option, Some, None, Bool, true, false, ◌&&◌, ◌||◌, arith, rules, leb, eqb, Fits, w64, add-one}
use Rattle.std.specs.Option.{option_and_then}
use Rattle.std.proofs.lemmas.Option.{none-some}
use native.Mathlib.Nat.{add-zero}
use borrow.Author.Tests.{le-leb, lt-leb, ne_eqb, eq-eqb}
use Rattle.std.proofs.Math.Nat.{mul-le-mul_left, pow-suc, pow-le-pow_right}
use lib.Dec.{lit<}
use lib.ListN.{drop_of_length-le}
use Rattle.wire.proofs.Steps.{left_at}
use Rattle.rules.specs.Lists.{pick, lower, all}
use Rattle.rules.specs.Fields.{digit, lower_hex_digit, hex_value, decimal_from, hex_from}
use Rattle.digits.specs.Digits.{decimal_of, hex_of, value_from, hex_just}

module _ (b : ℕ) where
  pub decimal : 48 ≤ b → b ≤ 57 → Some (b - 48) ≡ decimal_of b
  unfolding decimal_of digit pick
  decimal h k = rw (le-leb 48 b h, le-leb b 57 k) refl

  pub below_decimal : b < 48 → None ≡ decimal_of b
  unfolding decimal_of digit pick
  below_decimal h = rw (lt-leb 48 b h) refl

  pub above_decimal : 48 ≤ b → 57 < b → None ≡ decimal_of b
  unfolding decimal_of digit pick
  above_decimal h k = rw (le-leb 48 b h, lt-leb b 57 k) refl

  pub figure : 48 ≤ b → b ≤ 57 → Some (b - 48) ≡ hex_of b
  unfolding hex_of lower_hex_digit hex_value digit pick
  figure h k = rw (le-leb 48 b h, le-leb b 57 k) refl

  pub below_figures : b < 48 → None ≡ hex_of b
  unfolding hex_of lower_hex_digit digit pick
  below_figures h = rw (lt-leb 48 b h, lt-leb 97 b (omega arith)) refl

  pub between : 48 ≤ b → 57 < b → b < 97 → None ≡ hex_of b
  unfolding hex_of lower_hex_digit digit pick
  between h k l = rw (le-leb 48 b h, lt-leb b 57 k, lt-leb 97 b l) refl

  pub lettered : 97 ≤ b → b ≤ 102 → Some (b - 97 + 10) ≡ hex_of b
  unfolding hex_of lower_hex_digit hex_value digit lower pick
  lettered l m =
      let e : b - 97 + 10 ≡ b - 87 = omega arith in
      rw (e, le-leb 48 b (omega arith), lt-leb b 57 (omega arith), le-leb 97 b l, le-leb b 102 m, le-leb 65 b (omega arith), lt-leb b 90 (omega arith)) refl

  pub above : 97 ≤ b → 102 < b → None ≡ hex_of b
  unfolding hex_of lower_hex_digit digit pick
  above l m = rw (le-leb 48 b (omega arith), lt-leb b 57 (omega arith), le-leb 97 b l, lt-leb b 102 m) refl

pub ruleset decimal_laws = (decimal, below_decimal, above_decimal, rules)

pub ruleset hex_laws = (figure, below_figures, between, lettered, above, rules)

-- a turn of the loop that reads digits
module _ (base : ℕ) (digit_of : ℕ → Option ℕ) (s : List ℕ) (v i : ℕ) (h : i < length s) where
  pub next : (d : ℕ) → Some d ≡ digit_of (get_or s i 0) → value_from base digit_of v (drop i s) ≡ value_from base digit_of (v * base + d) (drop (i + 1) s)
  unfolding value_from
  next d e = rw (left_at s i h, ← e) refl

  pub no_digit : None ≡ digit_of (get_or s i 0) → value_from base digit_of v (drop i s) ≡ None
  unfolding value_from
  no_digit e = rw (left_at s i h, ← e) refl

pub at_end : (base : ℕ) (digit_of : ℕ → Option ℕ) (s : List ℕ) (v i : ℕ) → length s ≤ i → value_from base digit_of v (drop i s) ≡ Some v
unfolding value_from
at_end base digit_of s v i h = rw (drop_of_length-le s h) refl

-- a digit more is at most sixteen times as much
product : (base v : ℕ) → base ≤ 16 → v * base ≤ v * 16
product base v b = mul-le-mul_left v b

pub more_digits : (base v i : ℕ) → base ≤ 16 → v < 16 ^ i → (d : ℕ) → d < 16 → v * base + d < 16 ^ (i + 1)
more_digits base v i b h d k = let p = product base v b in rw (add-one, pow-suc) (omega arith)

module _ (base v i n : ℕ) (b : base ≤ 16) (h : v < 16 ^ i) (l : i < n) (m : n ≤ 16) where
  small : v < 1152921504606846976
  small = omega (arith, pow-le-pow_right {n = 16} (lit< tt) (let q : i ≤ 15 = omega arith in q))

  pub times_fits : Fits w64 (v * base)
  times_fits = let p = product base v b in let s = small in omega arith

  pub more_fits : (d : ℕ) → d < 16 → Fits w64 (v * base + d)
  more_fits d k = let p = product base v b in let s = small in omega arith

-- what n digits say is below 16 ^ n
module _ (base : ℕ) (digit_of : ℕ → Option ℕ) (few : base ≤ 16) (below : (b d : ℕ) → digit_of b ≡ Some d → d < 16) where
  value_grows : (t : List ℕ) (n i v : ℕ) → n < 16 ^ i → value_from base digit_of n t ≡ Some v → v < 16 ^ (i + length t)
  unfolding value_from
  value_grows [] n i v h e = let q : n ≡ v = cc in rw (add-zero i, ← q) h
  value_grows (b ∷ bs) n i v h e =
      let q : i + length (b ∷ bs) ≡ i + 1 + length bs = omega arith in
      rw q (by (λ m l q. value_grows bs m (i + 1) v l q) (digit_of b) refl e)
    where
      by : ((m : ℕ) → m < 16 ^ (i + 1) → value_from base digit_of m bs ≡ Some v → v < 16 ^ (i + 1 + length bs)) → (u : Option ℕ) → digit_of b ≡ u → option_and_then (λ d. value_from base digit_of (n * base + d) bs) u ≡ Some v → v < 16 ^ (i + 1 + length bs)
      by g None r e = absurd (none-some _ e)
      by g (Some d) r e = g (n * base + d) (more_digits base n i few h d (below b d r)) e

  pub value_below : (t : List ℕ) (v : ℕ) → value_from base digit_of 0 t ≡ Some v → v < 16 ^ length t
  value_below t v e = let q : length t ≡ 0 + length t = omega arith in rw q (value_grows t 0 0 v (lit< tt) e)

-- where digits are those that pass a test, and worth a number each, they say a number if all pass
module _ (base : ℕ) {digit_of : ℕ → Option ℕ} (good : ℕ → Bool) (worth : ℕ → ℕ) (reads : (b : ℕ) → digit_of b ≡ pick (good b) (Some (worth b)) None)
    (number : ℕ → List ℕ → ℕ) (none : (n : ℕ) → number n [] ≡ n) (more : (n b : ℕ) (bs : List ℕ) → number n (b ∷ bs) ≡ number (n * base + worth b) bs) where
  pub number_says : (n : ℕ) (bs : List ℕ) → value_from base digit_of n bs ≡ pick (all good bs) (Some (number n bs)) None
  unfolding value_from all pick
  number_says n [] = rw (none n) refl
  number_says n (b ∷ bs) = rw (reads b, more n b bs) (by (good b) (number_says (n * base + worth b) bs))
    where
      by : (u : Bool) → value_from base digit_of (n * base + worth b) bs ≡ pick (all good bs) (Some (number (n * base + worth b) bs)) None
          → option_and_then (λ d. value_from base digit_of (n * base + d) bs) (pick u (Some (worth b)) None) ≡ pick (u && all good bs) (Some (number (n * base + worth b) bs)) None
      by true e = e
      by false e = refl

pub decimal_says : (t : List ℕ) → value_from 10 decimal_of 0 t ≡ pick (all digit t) (Some (decimal_from 0 t)) None
unfolding decimal_of decimal_from
decimal_says t = number_says 10 digit (λ b. b - 48) (λ b. refl) decimal_from (λ n. refl) (λ n b bs. refl) 0 t

pub hex_says : (t : List ℕ) → value_from 16 hex_of 0 t ≡ pick (all lower_hex_digit t) (Some (hex_from 0 t)) None
unfolding hex_of hex_from
hex_says t = number_says 16 lower_hex_digit hex_value (λ b. refl) hex_from (λ n. refl) (λ n b bs. refl) 0 t

module _ (n : ℕ) (t : List ℕ) where
  pub other_length : (length t ≡ n → ⊥) → None ≡ hex_just n t
  unfolding hex_just pick
  other_length h = rw (ne_eqb (length t) n h) refl

  pub just_length : length t ≡ n → value_from 16 hex_of 0 t ≡ hex_just n t
  unfolding hex_just
  just_length h = hex_says t ∙ rw (eq-eqb (length t) n h) refl
