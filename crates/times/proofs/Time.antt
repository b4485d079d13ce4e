-- The laws of a time: the number of its digits, within its limits.
use Rattle.std.proofs.Common.{◌≡◌, refl, sym, ℕ, ◌<◌, ◌≤◌, List, length, Some, None, Bool, true, false, ◌&&◌, arith, leb, ltb, eqb}
use Rattle.std.proofs.lemmas.Option.{none-some}
use borrow.Author.Tests.{le-leb, lt-leb, lt-ltb, le-ltb}
use Rattle.rules.specs.Lists.{pick, all}
use Rattle.rules.specs.Fields.{lower_hex_digit, hex_from, time_of}
use Rattle.digits.specs.Digits.{hex_just}

module _ (t : List ℕ) where
  pub no_number : None ≡ hex_just 16 t → None ≡ time_of t
  unfolding hex_just time_of pick
  no_number e = by (eqb (length t) 16 && all lower_hex_digit t) e
    where
      by : (u : Bool) → None ≡ pick u (Some (hex_from 0 t)) None → None ≡ pick (u && leb 1 (hex_from 0 t) && ltb (hex_from 0 t) 9223372036854775808) (Some (hex_from 0 t)) None
      by true e = absurd (none-some _ e)
      by false e = refl

  module _ (v : ℕ) (e : Some v ≡ hex_just 16 t) where
    is : (eqb (length t) 16 && all lower_hex_digit t ≡ true) × (hex_from 0 t ≡ v)
    unfolding hex_just pick
    is = by (eqb (length t) 16 && all lower_hex_digit t) e
      where
        by : (u : Bool) → Some v ≡ pick u (Some (hex_from 0 t)) None → (u ≡ true) × (hex_from 0 t ≡ v)
        by true e = (refl, cc)
        by false e = absurd (none-some _ (sym e))

    pub within : 1 ≤ v → v ≤ 9223372036854775807 → Some v ≡ time_of t
    unfolding time_of pick
    within h k = rw (is.0, is.1, le-leb 1 v h, lt-ltb v 9223372036854775808 (omega arith)) refl

    pub zero : v < 1 → None ≡ time_of t
    unfolding time_of pick
    zero h = rw (is.0, is.1, lt-leb 1 v h) refl

    pub late : 1 ≤ v → 9223372036854775807 < v → None ≡ time_of t
    unfolding time_of pick
    late h k = rw (is.0, is.1, le-leb 1 v h, le-ltb v 9223372036854775808 (omega arith)) refl
