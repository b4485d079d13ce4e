-- Numbers put one behind the other, each in as many bytes.
use mathlib.Core.Path.{◌≡◌, refl, ap, ◌∙◌, sym}
use mathlib.Core.List.{List, [], ◌∷◌, ◌++◌, map, append_assoc, append-nil}
use Prim.Native.Nat.{ℕ, ◌+◌, ◌*◌, ◌<◌, ◌≤◌}
use native.Mathlib.Nat.{mul-le-mul_left}
use native.Mathlib.Numerals.{add-one}
use native.Mathlib.Omega.{arith}
use borrow.Author.Rules.{rules}
use lib.ListN.{length, get_or, take}
use lib.Seq.{take-suc, take_all}
use Rattle.rules.specs.Lists.{join_all}
use Rattle.wire.proofs.Parts.{lent_at, back_at}
use Rattle.buffer.specs.Put.{IsPut}
use Rattle.buffer.proofs.Puts.{nothing, within, behind_length, then}

-- the bytes of the first i of the numbers are put
pub record Placed {A : Type 0} (f : A → List ℕ) (width : ℕ) (xs : List A) (d out : List ℕ) (i used : ℕ) : Type 0 where
  pub put : IsPut (join_all (map f (take i xs))) d out used
  pub count : used ≡ width * i

joined_snoc : {A : Type 0} (f : A → List ℕ) (xs : List A) (x : A) → join_all (map f (xs ++ (x ∷ []))) ≡ join_all (map f xs) ++ f x
unfolding join_all
joined_snoc f [] x = append-nil (f x)
joined_snoc f (y ∷ xs) x = ap (λ (l : List ℕ). f y ++ l) (joined_snoc f xs x) ∙ sym (append_assoc (f y) (join_all (map f xs)) (f x))

-- the same bytes, said otherwise
pub put_is : (x y d e : List ℕ) (r : ℕ) → IsPut x d e r → x ≡ y → IsPut y d e r
put_is x y d e r p q = rw q at p

pub begin : {A : Type 0} (f : A → List ℕ) (width : ℕ) (xs : List A) (d : List ℕ) → Placed f width xs d d 0 0
unfolding join_all
begin f width xs d = record { put = nothing d; count = omega arith }

module _ {A : Type 0} (f : A → List ℕ) (width : ℕ) (xs : List A) (d out : List ℕ) (i used : ℕ) (p : Placed f width xs d out i used) where
  pub starts : used ≤ length out
  starts = within (join_all (map f (take i xs))) d out used p.put

  pub done : length xs ≤ i → IsPut (join_all (map f xs)) d out used
  done h =
      let e : take i xs ≡ xs = take_all i xs h in
      rw e at p.put

  pub counted : length xs ≤ i → i ≤ length xs → used ≡ width * length xs
  counted h k =
      let e : i ≡ length xs = omega arith in
      rw (← e) p.count

  module _ (h : i < length xs) (room : width * length xs ≤ length d) where
    fits : used + width ≤ length d
    fits =
        let m : width * (i + 1) ≤ width * length xs = mul-le-mul_left width (omega arith) in
        omega (arith, p.count)

    pub room_more : width ≤ length (lent_at used out)
    room_more = omega (arith, fits, behind_length (join_all (map f (take i xs))) d out used p.put)

    pub sum_within : (k : ℕ) → k ≡ width → used + k ≤ length d
    sum_within k e = omega (arith, fits)

    pub more : (x e : A) (g : List ℕ) (k : ℕ) → IsPut (f x) (lent_at used out) g k → x ≡ get_or xs i e → k ≡ width
        → Placed f width xs d (back_at used out g) (i + 1) (used + k)
    more x e g k q is w = record {
      put = rw (add-one, take-suc xs i e h, ← is, joined_snoc) (then (join_all (map f (take i xs))) d out used p.put (f x) g k q);
      count = omega (arith, p.count);
    }

pub more_number : (f : ℕ → List ℕ) (width : ℕ) (xs d out : List ℕ) (i used : ℕ) → Placed f width xs d out i used → i < length xs → width * length xs ≤ length d
    → (g : List ℕ) (k : ℕ) → IsPut (f (get_or xs i 0)) (lent_at used out) g k → k ≡ width → Placed f width xs d (back_at used out g) (i + 1) (used + k)
more_number f width xs d out i used p h room g k q = more f width xs d out i used p h room (get_or xs i 0) 0 g k q refl

pub ruleset sequence_laws = (rules, begin, starts, done, counted, room_more, sum_within, more, more_number)
