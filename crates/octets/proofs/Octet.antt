-- The laws of one number of an IPv4 address: a number of at most three digits and 255, without a zero in front.
use Rattle.std.proofs.Common.{◌≡◌, refl, ap, ◌∙◌, sym, ℕ, ◌<◌, ◌≤◌, List, [], ◌∷◌, ◌++◌, length, get_or, map, Option, Some, None, option_map, arith, eqb, leb, Bool, true, false, ◌&&◌, ◌||◌, not, rules, Fits, w8, take}
use Rattle.std.proofs.lemmas.Option.{none-some}
use mathlib.Core.Bool.{and-true, and-false}
use borrow.Author.Tests.{le-leb, lt-leb, ne_eqb, not-true, not-false}
use Rattle.rules.specs.Lists.{pick, join_all, split_on}
use Rattle.rules.specs.Fields.{decimal_from, first_is_zero, octet, octet_byte, number_of}
use Rattle.numbers.proofs.Number.{value_within}
use Rattle.pieces.specs.Pieces.{read_all, read_in}
use Rattle.pieces.proofs.Read.{address_read}
use Rattle.octets.specs.Octets.{leading_zero, octet_of, octets_of}

pub bad_by : {A : Type 0} (u : Bool) (n : A) → None ≡ pick u (Some n) None → u ≡ false
unfolding pick
bad_by true n e = absurd (none-some n e)
bad_by false n e = refl

pub short : (t : List ℕ) → length t < 2 → false ≡ leading_zero t
unfolding leading_zero first_is_zero
short [] h = refl
short (b ∷ []) h = refl
short (b ∷ c ∷ t) h = absurd (omega arith)

pub first : (t : List ℕ) → 2 ≤ length t → eqb (get_or t 0 0) 48 ≡ leading_zero t
unfolding leading_zero first_is_zero
first [] h = absurd (omega arith)
first (b ∷ []) h = absurd (omega arith)
first (b ∷ c ∷ t) h = rw (ne_eqb (length (b ∷ c ∷ t)) 1 (λ e. omega arith)) (twice (eqb b 48))
  where
    twice : (u : Bool) → u ≡ not (not u)
    twice true = refl
    twice false = refl

pub ruleset zero_laws = (short, first, rules)

module _ (t : List ℕ) where
  pub long : 3 < length t → None ≡ octet_of t
  unfolding octet octet_of pick
  long h = rw (le-leb 1 (length t) (omega arith), lt-leb (length t) 3 h)

  pub zero_ahead : (r : Bool) → r ≡ leading_zero t → r ≡ true → None ≡ octet_of t
  unfolding octet leading_zero octet_of pick
  zero_ahead r p q = rw (not-true (eqb (length t) 1 || not (first_is_zero t)) (sym p ∙ q), and-false)

  -- with these two tests passed it is a number up to 255
  pub number_is : (r : Bool) → r ≡ leading_zero t → r ≡ false → length t ≤ 3 → number_of 255 t ≡ octet_of t
  unfolding number_of octet leading_zero octet_of
  number_is r p q h = rw (not-false (eqb (length t) 1 || not (first_is_zero t)) (sym p ∙ q), le-leb (length t) 3 h, le-leb (length t) 10 (omega arith), and-true, and-true)

  pub byte_fits : (v : ℕ) → number_of 255 t ≡ Some v → Fits w8 v
  byte_fits v e = omega (arith, value_within 255 t v e)

-- the pieces' numbers are the bytes
one : ℕ → List ℕ
one v = v ∷ []

ones : (vs : List ℕ) → join_all (map one vs) ≡ vs
unfolding join_all one
ones [] = refl
ones (v ∷ vs) = ap (λ (l : List ℕ). v ∷ l) (ones vs)

same : (t : List ℕ) → octet_byte t ≡ one (decimal_from 0 t)
unfolding octet_byte one
same t = refl

reads : (t : List ℕ) → octet_of t ≡ pick (octet t) (Some (decimal_from 0 t)) None
unfolding octet_of
reads t = refl

all_ones : (r : Option (List ℕ)) → option_map (λ vs. join_all (map one vs)) r ≡ r
all_ones None = refl
all_ones (Some vs) = ap Some (ones vs)

pub octets_read : (text : List ℕ) → read_in 4 octet_of (split_on 46 text) ≡ octets_of text
unfolding octets_of read_in
octets_read text =
    let ps = split_on 46 text in
    sym (all_ones (pick (leb (length ps) 4) (read_all octet_of ps) None)) ∙ address_read octet (decimal_from 0) reads octet_byte one same (leb (length ps) 4) ps
