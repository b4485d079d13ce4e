-- The answers by the flag, against the rules of reading.
use mathlib.Core.Path.{◌≡◌, refl, ap, ◌∙◌, sym}
use mathlib.Core.Bool.{Bool, true, false, not, ◌&&◌}
use mathlib.Core.List.{List, [], ◌∷◌}
use Rattle.std.specs.Prelude.{Option, Some, None}
use Prim.Native.Nat.{ℕ, ◌+◌, ◌≤◌}
use native.Mathlib.Omega.{arith}
use borrow.Author.Rules.{rules}
use borrow.Author.Tests.{eqb-true, not-true, not-false}
use lib.Dec.{T, eqb, leb, ltb}
use lib.ListN.{length, take, drop, get_or, length-drop}
use lib.Seq.{drop-drop}
use Rattle.rules.specs.declared.quantities.Lo.{Lo}
use Rattle.rules.specs.Lists.{pick, from_be}
use Rattle.rules.specs.Fields.{largest_ttl}
use Rattle.rules.specs.Records.{Record, resource, lo_bytes}
use Rattle.rules.specs.Bytes.{wild}
use Rattle.rules.specs.Reading.{ordinary_key, wildcard_key, is_lo, moment_end, behind_lo, with_lo, by_flag}
use Rattle.rules.proofs.Tests.{pick_ok, tests}
use Rattle.keys.specs.Keys.{good_key, low_name, fits_owner}
use Rattle.keys.proofs.GoodKeys.{good_is}
use Rattle.judge.specs.declared.Seen.{Seen}
use Rattle.judge.proofs.SeenRecords.{equals}
use Rattle.judge.specs.Seen.{owner_of, seen_record, shared_in, seen_with, wildcard_flag, lo_in, lo_flag, flag_by, flag_in, fixed_in}

-- ---- a key that fits the owner

module _ (key : List ℕ) (w : Bool) where
  pub fits_wildcard : w ≡ true → leb (length key) 253 ≡ fits_owner w key
  unfolding fits_owner pick
  fits_wildcard y = rw y

  pub fits_other : (v : Bool) → w ≡ false → v ≡ wild key → not v ≡ fits_owner w key
  unfolding fits_owner pick
  fits_other v y k = rw (y, k)

pub ruleset owner_laws = (rules, fits_wildcard, fits_other)

-- ---- by the flag

-- what stands behind lo at a place of the data
module _ (key rdata : List ℕ) (w : Bool) (type : ℕ) where
  pub behind : (lo : Lo) (at : ℕ) → seen_record key rdata (seen_with w type (at + 12) (shared_in lo (drop at rdata))) ≡ behind_lo (owner_of w key) type (lo_bytes lo) (drop at rdata)
  unfolding seen_record seen_with shared_in behind_lo pick
  behind lo at =
      rw (drop-drop 12 at rdata)
      (go (leb 12 (length (drop at rdata)) && leb (from_be 0 (take 4 (drop at rdata))) largest_ttl && ltb (from_be 0 (take 8 (drop 4 (drop at rdata)))) moment_end))
    where
      go : (t : Bool) → seen_record key rdata (seen_with w type (at + 12) (pick t (Some (record { ttl = record { 0 = from_be 0 (take 4 (drop at rdata)) }; time = record { 0 = from_be 0 (take 8 (drop 4 (drop at rdata))) }; lo = lo })) None))
          ≡ pick t (Some (resource (owner_of w key) type (lo_bytes lo) (from_be 0 (take 4 (drop at rdata))) (from_be 0 (take 8 (drop 4 (drop at rdata)))) (drop (at + 12) rdata))) None
      go true = refl
      go false = refl

two_of : (rest : List ℕ) → is_lo (take 2 rest) ≡ true → lo_bytes (lo_in rest) ≡ take 2 rest
unfolding lo_bytes lo_in is_lo
two_of [] h = let z : ◌≡◌ {A = ℕ} 0 1 = cc in absurd (omega arith)
two_of (a ∷ []) h = let z : ◌≡◌ {A = ℕ} 0 1 = cc in absurd (omega arith)
two_of (a ∷ b ∷ rest) h = refl

-- the record that flag and lo, and what is behind them, give
unfoldable pub on_flag : List ℕ → List ℕ → Bool → ℕ → Option (Lo × ℕ) → Option Record
on_flag key rdata w type None = None
on_flag key rdata w type (Some flag) = behind_lo (owner_of w key) type (lo_bytes flag.0) (drop flag.1 rdata)

pub name_low : (key : List ℕ) (u : Bool) → u ≡ low_name key → not u ≡ false → low_name key ≡ true
name_low key u p m = sym p ∙ not-false u m

module _ (key rdata : List ℕ) (type : ℕ) where
  lo_means : (w : Bool) → on_flag key rdata w type (lo_flag rdata) ≡ with_lo (owner_of w key) type (drop 3 rdata)
  unfolding with_lo lo_flag
  lo_means w = go (is_lo (take 2 (drop 3 rdata))) refl
    where
      go : (t : Bool) → is_lo (take 2 (drop 3 rdata)) ≡ t
          → on_flag key rdata w type (pick t (Some (lo_in (drop 3 rdata), 5)) None) ≡ pick t (behind_lo (owner_of w key) type (take 2 (drop 3 rdata)) (drop 2 (drop 3 rdata))) None
      go true h = unfold pick on_flag in rw (two_of (drop 3 rdata) h, drop-drop 2 3 rdata)
      go false h = unfold pick on_flag in refl

  no_record_lem : (b : Bool) → pick {A = Option Record} b None None ≡ None
  unfolding pick
  no_record_lem true = refl
  no_record_lem false = refl

  -- the rules' reading by the flag: first the key, then lo, then the rest
  pub flag_means : (flag : ℕ) → by_flag key type flag (drop 3 rdata) ≡ pick (good_key (wildcard_flag flag) key) (on_flag key rdata (wildcard_flag flag) type (flag_by flag rdata)) None
  flag_means flag = equal (eqb flag 61) refl
    where
      Goal : ℕ → Type 0
      Goal flag = by_flag key type flag (drop 3 rdata) ≡ pick (good_key (wildcard_flag flag) key) (on_flag key rdata (wildcard_flag flag) type (flag_by flag rdata)) None

      none_of : eqb flag 61 ≡ false → eqb flag 62 ≡ false → eqb flag 42 ≡ false → eqb flag 43 ≡ false → Goal flag
      none_of a b c d = unfold by_flag wildcard_flag flag_by pick on_flag in rw (a, b, c, d) (sym (no_record_lem (good_key false key)))

      plus : (t : Bool) → eqb flag 43 ≡ t → eqb flag 61 ≡ false → eqb flag 62 ≡ false → eqb flag 42 ≡ false → Goal flag
      plus true q a b c = rw (eqb-true flag 43 q) (unfold by_flag wildcard_flag flag_by good_key pick in ap (λ (o : Option Record). pick (wildcard_key key) o None) (unfold owner_of pick in sym (lo_means true)))
      plus false q a b c = none_of a b c q

      star : (t : Bool) → eqb flag 42 ≡ t → eqb flag 61 ≡ false → eqb flag 62 ≡ false → Goal flag
      star true q a b = rw (eqb-true flag 42 q) (unfold by_flag wildcard_flag flag_by good_key pick on_flag owner_of lo_bytes in refl)
      star false q a b = plus (eqb flag 43) refl a b q

      greater : (t : Bool) → eqb flag 62 ≡ t → eqb flag 61 ≡ false → Goal flag
      greater true q a = rw (eqb-true flag 62 q) (unfold by_flag wildcard_flag flag_by good_key pick in ap (λ (o : Option Record). pick (ordinary_key key) o None) (unfold owner_of pick in sym (lo_means false)))
      greater false q a = star (eqb flag 42) refl a q

      equal : (t : Bool) → eqb flag 61 ≡ t → Goal flag
      equal true q = rw (eqb-true flag 61 q) (unfold by_flag wildcard_flag flag_by good_key pick on_flag owner_of lo_bytes in refl)
      equal false q = greater (eqb flag 62) refl q

  -- a key that is no name free of A to Z
  pub name_bad : (u : Bool) → u ≡ low_name key → not u ≡ true → seen_record key rdata None ≡ by_flag key type (get_or rdata 2 0) (drop 3 rdata)
  unfolding seen_record pick
  name_bad u p m = sym (flag_means (get_or rdata 2 0) ∙ rw (good_is key (wildcard_flag (get_or rdata 2 0)), ← p, not-true u m))

  module _ (low : low_name key ≡ true) (w : Bool) (ew : w ≡ wildcard_flag (get_or rdata 2 0)) (t : Bool) (q : t ≡ fits_owner w key) where
    flagged : by_flag key type (get_or rdata 2 0) (drop 3 rdata) ≡ pick t (on_flag key rdata w type (flag_in rdata)) None
    unfolding flag_in
    flagged = flag_means (get_or rdata 2 0) ∙ rw (← ew, good_is key w, low, ← q)

    pub key_bad : not t ≡ true → seen_record key rdata None ≡ by_flag key type (get_or rdata 2 0) (drop 3 rdata)
    unfolding seen_record pick
    key_bad n = sym (flagged ∙ rw (not-true t n))

    module _ (n : not t ≡ false) where
      read_on : by_flag key type (get_or rdata 2 0) (drop 3 rdata) ≡ on_flag key rdata w type (flag_in rdata)
      unfolding pick
      read_on = flagged ∙ rw (not-false t n)

      pub flag_bad : None ≡ flag_in rdata → seen_record key rdata None ≡ by_flag key type (get_or rdata 2 0) (drop 3 rdata)
      unfolding seen_record on_flag
      flag_bad b = sym (read_on ∙ ap (on_flag key rdata w type) (sym b))

      pub flag_read : (lo : Lo) (at : ℕ) (r : Option Seen) → Some (lo, at) ≡ flag_in rdata → r ≡ seen_with w type (at + 12) (shared_in lo (drop at rdata))
          → seen_record key rdata r ≡ by_flag key type (get_or rdata 2 0) (drop 3 rdata)
      unfolding on_flag
      flag_read lo at r b e = ap (seen_record key rdata) e ∙ behind key rdata w type lo at ∙ sym (read_on ∙ ap (on_flag key rdata w type) (sym b))

  -- the flag `=`
  module _ (u : Bool) (p : u ≡ low_name key) (m : not u ≡ false) (e : get_or rdata 2 0 ≡ 61) (v : Bool) (k : v ≡ wild key) where
    ordinary : false ≡ wildcard_flag (get_or rdata 2 0)
    unfolding wildcard_flag
    ordinary = rw e

    pub starred : v ≡ true → seen_record key rdata None ≡ by_flag key type (get_or rdata 2 0) (drop 3 rdata)
    starred y = key_bad (name_low key u p m) false ordinary (not v) (fits_other key false v refl k) (rw y)

    pub plain_read : (r : Option Seen) → v ≡ false → r ≡ seen_with false type (3 + 12) (shared_in Lo.Every (drop 3 rdata)) → seen_record key rdata r ≡ by_flag key type (get_or rdata 2 0) (drop 3 rdata)
    plain_read r y f = flag_read (name_low key u p m) false ordinary (not v) (fits_other key false v refl k) (rw y) Lo.Every 3 r (equals rdata e) f

pub two_there : (rest : List ℕ) → T (is_lo (take 2 rest)) → 2 ≤ length rest
unfolding is_lo
two_there [] t = absurd t
two_there (a ∷ []) t = absurd t
two_there (a ∷ b ∷ rest) t = omega arith

-- ttl begins within the data
pub ttl_inside : (rdata : List ℕ) (lo : Lo) (at : ℕ) → 3 ≤ length rdata → Some (lo, at) ≡ flag_in rdata → at ≤ length rdata
ttl_inside rdata lo at l e = go (Some (lo, at)) e refl
  where
    Within : Option (Lo × ℕ) → Type 0
    Within f = (flag : Lo × ℕ) → f ≡ Some flag → flag.1 ≤ length rdata

    go : (f : Option (Lo × ℕ)) → f ≡ flag_in rdata → f ≡ Some (lo, at) → at ≤ length rdata
    go f e b = unfold flag_in flag_by lo_flag in
        pick_ok Within _
        (λ t flag q. let e : (Lo.Every, 3) ≡ flag = cc in let z : 3 ≡ flag.1 = ap (λ (x : Lo × ℕ). x.1) e in omega arith)
        (λ t. pick_ok Within _
        (λ t. pick_ok Within (is_lo (take 2 (drop 3 rdata)))
        (λ t flag q. let e : (lo_in (drop 3 rdata), 5) ≡ flag = cc in let z : 5 ≡ flag.1 = ap (λ (x : Lo × ℕ). x.1) e in omega (arith, two_there (drop 3 rdata) t, length-drop 3 rdata))
        (λ t flag q. let z : ◌≡◌ {A = ℕ} 0 1 = cc in absurd (omega arith)))
        (λ t flag q. let z : ◌≡◌ {A = ℕ} 0 1 = cc in absurd (omega arith)))
        (lo, at) (sym e ∙ b)

-- the fixed fields are there
module _ (key rdata : List ℕ) (w : Bool) (type : ℕ) where
  pub behind_fixed : (lo : Lo) (at : ℕ) → fixed_in (seen_with w type (at + 12) (shared_in lo (drop at rdata))) ≤ length rdata
  unfolding seen_with shared_in fixed_in
  behind_fixed lo at =
      pick_ok (λ f. fixed_in (seen_with w type (at + 12) f) ≤ length rdata) _
      (λ t. let h : 12 ≤ length (drop at rdata) = search tests in omega (arith, length-drop at rdata))
      (λ t. omega arith)

  pub whole_fixed : (lo : Lo) (at : ℕ) (r : Option Seen) → r ≡ seen_with w type (at + 12) (shared_in lo (drop at rdata)) → fixed_in r ≤ length rdata
  whole_fixed lo at r e = rw e (behind_fixed lo at)

pub no_fixed : (rdata : List ℕ) → fixed_in None ≤ length rdata
unfolding fixed_in
no_fixed rdata = omega arith

pub ruleset any_flag_laws = (rules, ttl_inside, key_bad, flag_bad, flag_read, whole_fixed, no_fixed)

pub ruleset by_flag_laws = (rules, name_bad, name_low, starred, plain_read, whole_fixed, no_fixed)
