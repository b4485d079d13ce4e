-- The laws of digits: each is worth less than sixteen.
use Rattle.std.proofs.Common.{◌≡◌, refl, sym, ℕ, ◌-◌, ◌<◌, ◌≤◌, Some, None, Bool, true, false, true≢false, ◌&&◌, ◌||◌, arith, leb}
use Rattle.std.proofs.lemmas.Option.{none-some}
use borrow.Author.Tests.{le-leb, lt-leb, leb-true}
use Rattle.rules.specs.Lists.{pick, lower}
use Rattle.rules.specs.Fields.{digit, lower_hex_digit, hex_value}
use Rattle.digits.specs.Digits.{decimal_of, hex_of}

some_is : {A : Type 0} (u : Bool) (x d : A) → pick u (Some x) None ≡ Some d → (u ≡ true) × (x ≡ d)
unfolding pick
some_is true x d e = (refl, cc)
some_is false x d e = absurd (none-some d e)

pub decimal_below : (b d : ℕ) → decimal_of b ≡ Some d → d < 16
unfolding decimal_of digit
decimal_below b d e = by (leb 48 b) (leb b 57) refl (some_is (leb 48 b && leb b 57) (b - 48) d e)
  where
    by : (u v : Bool) → leb b 57 ≡ v → ((u && v) ≡ true) × (b - 48 ≡ d) → d < 16
    by true true q h = omega (arith, leb-true b 57 q, h.1)
    by true false q h = absurd (true≢false (sym h.0))
    by false v q h = absurd (true≢false (sym h.0))

unraised : (b : ℕ) → 97 ≤ b → lower b ≡ b
unfolding lower pick
unraised b h = rw (le-leb 65 b (omega arith), lt-leb b 90 (omega arith)) refl

pub hex_below : (b d : ℕ) → hex_of b ≡ Some d → d < 16
unfolding hex_of lower_hex_digit hex_value digit pick
hex_below b d e =
    let h = some_is ((leb 48 b && leb b 57) || (leb 97 b && leb b 102)) (pick (leb 48 b && leb b 57) (b - 48) (lower b - 87)) d e in
    rw (← h.1) (by (leb 48 b) (leb b 57) (leb 97 b) (leb b 102) refl refl refl refl h.0)
  where
    by : (t u v w : Bool) → leb 48 b ≡ t → leb b 57 ≡ u → leb 97 b ≡ v → leb b 102 ≡ w → ((t && u) || (v && w)) ≡ true → pick (t && u) (b - 48) (lower b - 87) < 16
    by true true v w p q r s e = omega (arith, leb-true b 57 q)
    by true false true true p q r s e = omega (arith, unraised b (leb-true 97 b r), leb-true b 102 s)
    by false u true true p q r s e = omega (arith, unraised b (leb-true 97 b r), leb-true b 102 s)
    by true false true false p q r s e = absurd (true≢false (sym e))
    by true false false w p q r s e = absurd (true≢false (sym e))
    by false u true false p q r s e = absurd (true≢false (sym e))
    by false u false w p q r s e = absurd (true≢false (sym e))
