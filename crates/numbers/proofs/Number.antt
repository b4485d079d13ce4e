-- The laws of a number: what its digits say, within its length and its limit.
use Rattle.std.proofs.Common.{◌≡◌, refl, ◌∙◌, sym, ℕ, ◌+◌, ◌-◌, ◌*◌, ◌^◌, ◌<◌, ◌≤◌, List, length, Option, Some, None, Bool, true, false, ◌&&◌, arith, leb, add-one}
use Rattle.std.proofs.lemmas.Option.{none-some}
use borrow.Author.Tests.{le-leb, lt-leb, leb-true}
use Rattle.std.proofs.Math.Nat.{pow-suc}
use Rattle.rules.specs.Lists.{pick, all}
use Rattle.rules.specs.Fields.{digit, decimal_from, number_of}
use Rattle.digits.specs.Digits.{decimal_of, value_from}
use Rattle.digits.proofs.Digit.{decimal_says}

-- one digit more is ten times as much
pub ten_more : (i v d b : ℕ) → v < 10 ^ i → d ≡ b - 48 → b ≤ 57 → v * 10 + d < 10 ^ (i + 1)
ten_more i v d b h e g = rw (add-one, pow-suc) (omega arith)

module _ (limit : ℕ) (s : List ℕ) where
  pub empty : length s ≡ 0 → None ≡ number_of limit s
  unfolding number_of pick
  empty h = rw (lt-leb 1 (length s) (omega arith)) refl

  pub long : 10 < length s → None ≡ number_of limit s
  unfolding number_of pick
  long h = rw (le-leb 1 (length s) (omega arith), lt-leb (length s) 10 h) refl

  module _ (a : length s ≡ 0 → ⊥) (b : length s ≤ 10) where
    pub no_digits : None ≡ value_from 10 decimal_of 0 s → None ≡ number_of limit s
    unfolding number_of pick
    no_digits e = rw (le-leb 1 (length s) (omega arith), le-leb (length s) 10 b) (by (all digit s) (e ∙ decimal_says s))
      where
        by : (u : Bool) → None ≡ pick u (Some (decimal_from 0 s)) None → None ≡ pick (u && leb (decimal_from 0 s) limit) (Some (decimal_from 0 s)) None
        by true e = absurd (none-some _ e)
        by false e = refl

    module _ (v : ℕ) (e : Some v ≡ value_from 10 decimal_of 0 s) where
      said : (all digit s ≡ true) × (decimal_from 0 s ≡ v)
      unfolding pick
      said = by (all digit s) (e ∙ decimal_says s)
        where
          by : (u : Bool) → Some v ≡ pick u (Some (decimal_from 0 s)) None → (u ≡ true) × (decimal_from 0 s ≡ v)
          by true e = (refl, cc)
          by false e = absurd (none-some _ (sym e))

      pub good : v ≤ limit → Some v ≡ number_of limit s
      unfolding number_of pick
      good l = rw (le-leb 1 (length s) (omega arith), le-leb (length s) 10 b, said.0, said.1, le-leb v limit l) refl

      pub over : limit < v → None ≡ number_of limit s
      unfolding number_of pick
      over l = rw (le-leb 1 (length s) (omega arith), le-leb (length s) 10 b, said.0, said.1, lt-leb v limit l) refl

-- a good number is within its limit
pub value_within : (limit : ℕ) (t : List ℕ) (v : ℕ) → number_of limit t ≡ Some v → v ≤ limit
unfolding number_of pick
value_within limit t v e = by (leb 1 (length t) && leb (length t) 10 && all digit t) (leb (decimal_from 0 t) limit) refl e
  where
    by : (u w : Bool) → leb (decimal_from 0 t) limit ≡ w → pick (u && w) (Some (decimal_from 0 t)) None ≡ Some v → v ≤ limit
    by true true a e = let q : decimal_from 0 t ≡ v = cc in omega (arith, leb-true (decimal_from 0 t) limit a)
    by true false a e = absurd (none-some _ e)
    by false w a e = absurd (none-some _ e)

pub within : (limit : ℕ) (t : List ℕ) (r : Option ℕ) (v : ℕ) → r ≡ number_of limit t → r ≡ Some v → v ≤ limit
within limit t r v p q = value_within limit t v (sym p ∙ q)
