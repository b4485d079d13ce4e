-- What a record says of the key and the data that it was read from.
use mathlib.Core.Path.{◌≡◌, refl, ap, ◌∙◌, sym}
use mathlib.Core.Bool.{Bool, true, false, not, ◌&&◌}
use mathlib.Core.List.{List, [], ◌∷◌}
use Rattle.std.specs.Prelude.{Option, Some}
use Prim.Native.Nat.{ℕ, zero, suc, ◌+◌, ◌≤◌}
use native.Mathlib.Omega.{arith}
use lib.ListN.{length, take, drop, length-append, length-map, length-drop}
use lib.Dec.{T, eqb, leb}
use Rattle.rules.specs.Lists.{pick, from_be, begins_with}
use Rattle.rules.specs.declared.quantities.Shared.{Shared}
use Rattle.rules.specs.Records.{Record, location, resource, lo_bytes}
use Rattle.rules.specs.Bytes.{wild, unstarred, key_of, rdata_of, fixed_of, data_of, size}
use Rattle.rules.specs.Reading.{ordinary_key, wildcard_key, is_lo, behind_lo, with_lo, by_flag, resource_in, location_in, record_in}
use Rattle.rules.proofs.Tests.{pick_ok, tests}
use Rattle.rules.proofs.Lists.{OnSome}
use Rattle.rules.proofs.Decoding.{flag_length}
use Rattle.rules.proofs.Numbers.{length_be}
use Rattle.keys.specs.Keys.{good_key}
use Rattle.judge.specs.declared.Seen.{Seen}
use Rattle.judge.specs.Seen.{owner_of, seen_record}

-- a resource record: whether it is a wildcard, and the lengths of its parts
pub record FromKey (key rdata owner lo rd : List ℕ) : Type 0 where
  pub w : Bool
  pub owned : owner ≡ owner_of w key
  pub good : T (good_key w key)
  pub long : length rdata ≡ 15 + length lo + length rd

abbrev pub Shape : List ℕ → List ℕ → Record → Type 0
Shape key rdata (location prefix lo) = (key ≡ 0 ∷ 37 ∷ prefix) × (rdata ≡ lo)
Shape key rdata (resource owner type lo ttl time rd) = FromKey key rdata owner lo rd

module _ (key rdata : List ℕ) where
  behind_shape : (w : Bool) (type : ℕ) (lo rest : List ℕ) → T (good_key w key) → length rdata ≡ 3 + length lo + length rest → OnSome (Shape key rdata) (behind_lo (owner_of w key) type lo rest)
  unfolding behind_lo
  behind_shape w type lo rest g l =
      pick_ok (OnSome (Shape key rdata)) _
      (λ t. let h : 12 ≤ length rest = search tests in record { w = w; owned = refl; good = g; long = omega (arith, length-drop 12 rest) })
      (λ t. tt)

  two_and_rest : (rest : List ℕ) → length (take 2 rest) + length (drop 2 rest) ≡ length rest
  two_and_rest [] = refl
  two_and_rest (a ∷ []) = refl
  two_and_rest (a ∷ b ∷ rest) = omega arith

  lo_shape : (w : Bool) (type : ℕ) (rest : List ℕ) → T (good_key w key) → length rdata ≡ 3 + length rest → OnSome (Shape key rdata) (with_lo (owner_of w key) type rest)
  unfolding with_lo
  lo_shape w type rest g l =
      pick_ok (OnSome (Shape key rdata)) (is_lo (take 2 rest))
      (λ t. behind_shape w type (take 2 rest) (drop 2 rest) g (omega (arith, two_and_rest rest)))
      (λ t. tt)

  flag_shape : (type flag : ℕ) (rest : List ℕ) → length rdata ≡ 3 + length rest → OnSome (Shape key rdata) (by_flag key type flag rest)
  unfolding by_flag
  flag_shape type flag rest l =
      pick_ok (OnSome (Shape key rdata)) (eqb flag 61)
      (λ t. pick_ok (OnSome (Shape key rdata)) (ordinary_key key) (λ g. plain g) (λ g. tt))
      (λ t. pick_ok (OnSome (Shape key rdata)) (eqb flag 62)
      (λ t. pick_ok (OnSome (Shape key rdata)) (ordinary_key key) (λ g. located g) (λ g. tt))
      (λ t. pick_ok (OnSome (Shape key rdata)) (eqb flag 42)
      (λ t. pick_ok (OnSome (Shape key rdata)) (wildcard_key key) (λ g. wild_plain g) (λ g. tt))
      (λ t. pick_ok (OnSome (Shape key rdata)) (eqb flag 43)
      (λ t. pick_ok (OnSome (Shape key rdata)) (wildcard_key key) (λ g. wild_located g) (λ g. tt))
      (λ t. tt))))
    where
      plain : T (ordinary_key key) → OnSome (Shape key rdata) (behind_lo key type [] rest)
      plain g = unfold good_key owner_of pick in behind_shape false type [] rest g (omega arith)

      located : T (ordinary_key key) → OnSome (Shape key rdata) (with_lo key type rest)
      located g = unfold good_key owner_of pick in lo_shape false type rest g l

      wild_plain : T (wildcard_key key) → OnSome (Shape key rdata) (behind_lo (1 ∷ 42 ∷ key) type [] rest)
      wild_plain g = unfold good_key owner_of pick in behind_shape true type [] rest g (omega arith)

      wild_located : T (wildcard_key key) → OnSome (Shape key rdata) (with_lo (1 ∷ 42 ∷ key) type rest)
      wild_located g = unfold good_key owner_of pick in lo_shape true type rest g l

resource_shape : (key rdata : List ℕ) → OnSome (Shape key rdata) (resource_in key rdata)
unfolding resource_in
resource_shape key [] = tt
resource_shape key (t ∷ []) = tt
resource_shape key (t ∷ u ∷ []) = tt
resource_shape key (t ∷ u ∷ flag ∷ rest) = flag_shape key (t ∷ u ∷ flag ∷ rest) (from_be 0 (t ∷ u ∷ [])) flag rest (omega arith)

pub shape : (key rdata : List ℕ) → OnSome (Shape key rdata) (record_in key rdata)
unfolding record_in location_in
shape [] rdata = tt
shape (zero ∷ []) rdata = resource_shape (zero ∷ []) rdata
shape (zero ∷ mark ∷ prefix) rdata =
    pick_ok (OnSome (Shape (zero ∷ mark ∷ prefix) rdata)) (eqb mark 37 && leb (length prefix) 4 && is_lo rdata)
    (λ t. let e : mark ≡ 37 = search tests in (ap (λ (m : ℕ). 0 ∷ m ∷ prefix) e, refl))
    (λ t. tt)
shape (suc b ∷ key) rdata = resource_shape (suc b ∷ key) rdata

pub shaped : (key rdata : List ℕ) (r : Record) → record_in key rdata ≡ Some r → Shape key rdata r
shaped key rdata r e = rw e at (shape key rdata)

pub is_false : (b : Bool) → T (not b) → b ≡ false
is_false true t = absurd t
is_false false t = refl

-- ---- a resource record that was seen

module _ (key rdata : List ℕ) (seen : Option Seen) (e : seen_record key rdata seen ≡ record_in key rdata)
    (w : Bool) (type : ℕ) (shared : Shared) (fixed : ℕ) (q : seen ≡ Some (Seen.Resource w type shared fixed)) where
  pub is_resource : record_in key rdata ≡ Some (resource (owner_of w key) type (lo_bytes shared.lo) shared.ttl.0 shared.time.0 (drop fixed rdata))
  unfolding seen_record
  is_resource = sym e ∙ ap (seen_record key rdata) q

  same_flag : (v w : Bool) → owner_of w key ≡ owner_of v key → v ≡ w
  unfolding owner_of pick
  same_flag true true o = refl
  same_flag true false o = absurd (omega (arith, ap length o))
  same_flag false true o = absurd (omega (arith, ap length o))
  same_flag false false o = refl

  pub good_key_lem : T (good_key w key)
  good_key_lem =
      let s = shaped key rdata (resource (owner_of w key) type (lo_bytes shared.lo) shared.ttl.0 shared.time.0 (drop fixed rdata)) is_resource in
      rw (same_flag s.w w s.owned) at s.good

pub owner_wild : (w : Bool) (key : List ℕ) → T (good_key w key) → wild (owner_of w key) ≡ w
unfolding owner_of good_key pick
owner_wild true key g = unfold wild begins_with in refl
owner_wild false key g = is_false (wild key) (unfold ordinary_key in search tests)

-- ---- the size of a record is that of its bytes

key_length_lem : (w : Bool) (key : List ℕ) → T (good_key w key) → length (unstarred (owner_of w key)) ≡ length key
unfolding unstarred owner_of good_key
key_length_lem true key g = unfold pick wild begins_with in refl
key_length_lem false key g = unfold pick in rw (is_false (wild key) (unfold ordinary_key in search tests))

pub size_is : (key rdata : List ℕ) (r : Record) → Shape key rdata r → size r ≡ 8 + length key + length rdata
unfolding size key_of data_of fixed_of rdata_of
size_is key rdata (location prefix lo) s = omega (arith, ap length s.0, ap length s.1)
size_is key rdata (resource owner type lo ttl time rd) s =
    let k : length (unstarred owner) ≡ length key = ap (λ (o : List ℕ). length (unstarred o)) s.owned ∙ key_length_lem s.w key s.good in
    simp (length-append, length_be, flag_length, length-map) (omega (arith, s.long))
