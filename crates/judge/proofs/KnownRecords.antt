-- A key and data that are known to be a record: what was judged holds, and the rest is read.
use mathlib.Core.Path.{◌≡◌, refl, ap, ◌∙◌, sym}
use mathlib.Core.Bool.{Bool, true, false, ◌&&◌, ◌||◌}
use mathlib.Core.List.{List, [], ◌∷◌}
use Rattle.std.specs.Prelude.{IsSome, Option, Some, None}
use Prim.Native.Nat.{ℕ, ◌+◌, ◌*◌, ◌<◌, ◌≤◌}
use native.Mathlib.Omega.{arith}
use borrow.Author.Rules.{rules}
use borrow.Author.Tests.{ne_eqb}
use lib.Dec.{eqb, leb}
use lib.ListN.{length, take, drop, get_or, length-drop}
use Rattle.rules.specs.declared.quantities.Lo.{Lo}
use Rattle.rules.specs.Lists.{pick, from_be, is_some}
use Rattle.rules.specs.Records.{Record}
use Rattle.rules.specs.Reading.{is_lo, by_flag, resource_in, location_in, record_in}
use Rattle.rules.proofs.Tests.{pick_ok}
use Rattle.keys.specs.Keys.{good_key}
use Rattle.judge.specs.declared.Seen.{Seen}
use Rattle.judge.specs.Seen.{seen_record, fixed_in, shared_in, seen_with, wildcard_flag, lo_in, lo_flag, flag_by, flag_in, seen_flag, seen_in}
use Rattle.judge.proofs.SeenRecords.{code, equals, star}
use Rattle.judge.proofs.Meanings.{behind, on_flag, flag_means, two_there, ttl_inside, behind_fixed, no_fixed}
use Rattle.judge.proofs.ByKeys.{name_is, location_key, key_long}

-- ---- a flag that is neither `=` nor `*` has a lo behind it

module _ (rdata : List ℕ) (a : get_or rdata 2 0 ≡ 61 → ⊥) (b : get_or rdata 2 0 ≡ 42 → ⊥) where
  abbrev HasLo : Option (Lo × ℕ) → Type 0
  HasLo f = is_some f ≡ true → (5 ≤ length rdata) × (Some (lo_in (drop 3 rdata), 5) ≡ f)

  has_lo : HasLo (flag_in rdata)
  unfolding flag_in flag_by lo_flag is_some
  has_lo =
      rw (ne_eqb _ _ a, ne_eqb _ _ b)
      (unfold pick in pick_ok HasLo (eqb (get_or rdata 2 0) 62 || eqb (get_or rdata 2 0) 43)
      (λ t. pick_ok HasLo (is_lo (take 2 (drop 3 rdata)))
      (λ t k. (omega (arith, two_there (drop 3 rdata) t, length-drop 3 rdata), refl))
      (λ t k. let z : ◌≡◌ {A = ℕ} 0 1 = cc in absurd (omega arith)))
      (λ t k. let z : ◌≡◌ {A = ℕ} 0 1 = cc in absurd (omega arith)))

  module _ (k : is_some (flag_in rdata) ≡ true) where
    pub lo_long : 5 ≤ length rdata
    lo_long = (has_lo k).0

    pub lo_there : 3 < length rdata
    lo_there = omega (arith, lo_long)

    pub lo_read_lem : Some ((Lo.Code (get_or rdata 3 0) (get_or rdata 4 0)), 5) ≡ flag_in rdata
    lo_read_lem = rw (code rdata lo_long) at (has_lo k).1

pub ruleset known_flag_laws = (rules, equals, star, lo_long, lo_there, lo_read_lem)

pub is_there : {A : Type 0} (o : Option A) → is_some o ≡ true → IsSome o
unfolding is_some
is_there None k = let z : ◌≡◌ {A = ℕ} 0 1 = cc in absurd (omega arith)
is_there (Some x) k = refl

-- ---- the data

module _ (rdata : List ℕ) (type : ℕ) (w : Bool) (et : type ≡ get_or rdata 0 0 * 256 + get_or rdata 1 0) (ew : w ≡ wildcard_flag (get_or rdata 2 0)) where
  pub data_read : (flag : Lo × ℕ) (o : Option Seen) (r : Seen) → Some flag ≡ flag_in rdata
      → o ≡ seen_with w type (flag.1 + 12) (shared_in flag.0 (drop flag.1 rdata)) → o ≡ Some r → Some r ≡ seen_in rdata
  unfolding seen_in seen_flag
  data_read flag o r b e q = sym q ∙ rw (← et, ← ew, ← b) e

  pub data_there : (flag : Lo × ℕ) (o : Option Seen) → Some flag ≡ flag_in rdata
      → o ≡ seen_with w type (flag.1 + 12) (shared_in flag.0 (drop flag.1 rdata)) → is_some (seen_in rdata) ≡ true → IsSome o
  unfolding seen_in seen_flag
  data_there flag o b e k = is_there o (rw e (rw (← et, ← ew, ← b) at k))

pub flag_there : (rdata : List ℕ) → is_some (seen_in rdata) ≡ true → is_some (flag_in rdata) ≡ true
unfolding seen_in is_some
flag_there rdata k = go (flag_in rdata) k
  where
    go : (f : Option (Lo × ℕ)) → is_some (seen_flag (wildcard_flag (get_or rdata 2 0)) (get_or rdata 0 0 * 256 + get_or rdata 1 0) rdata f) ≡ true → is_some f ≡ true
    go None n = unfold seen_flag in n
    go (Some flag) n = refl

pub ttl_known : (rdata : List ℕ) (flag : Lo × ℕ) → 3 ≤ length rdata → Some flag ≡ flag_in rdata → flag.1 ≤ length rdata
ttl_known rdata flag l e = ttl_inside rdata flag.0 flag.1 l e

pub ruleset known_data_laws = (rules, ttl_known, flag_there, data_read, data_there)

-- ---- the record

module _ (key rdata : List ℕ) (w : Bool) (type : ℕ) where
  flag_seen : (f : Option (Lo × ℕ)) → seen_record key rdata (seen_flag w type rdata f) ≡ on_flag key rdata w type f
  unfolding on_flag seen_flag
  flag_seen None = unfold seen_record in refl
  flag_seen (Some flag) = behind key rdata w type flag.0 flag.1

  flag_whole : (f : Option (Lo × ℕ)) → is_some (on_flag key rdata w type f) ≡ true → is_some f ≡ true
  unfolding on_flag is_some
  flag_whole None k = k
  flag_whole (Some flag) k = refl

  flag_fixed : (f : Option (Lo × ℕ)) → fixed_in (seen_flag w type rdata f) ≤ length rdata
  unfolding seen_flag
  flag_fixed None = no_fixed rdata
  flag_fixed (Some flag) = behind_fixed key rdata w type flag.0 flag.1

some_of : (b : Bool) (o : Option Record) → is_some (pick b o None) ≡ true → pick b o None ≡ o
unfolding pick is_some
some_of true o k = refl
some_of false o k = let z : ◌≡◌ {A = ℕ} 0 1 = cc in absurd (omega arith)

record Known (key rdata : List ℕ) : Type 0 where
  long : 3 ≤ length rdata
  whole : is_some (flag_in rdata) ≡ true
  means : seen_record key rdata (seen_in rdata) ≡ resource_in key rdata

known : (key rdata : List ℕ) → is_some (resource_in key rdata) ≡ true → Known key rdata
unfolding resource_in is_some from_be seen_in flag_in
known key [] k = let z : ◌≡◌ {A = ℕ} 0 1 = cc in absurd (omega arith)
known key (t ∷ []) k = let z : ◌≡◌ {A = ℕ} 0 1 = cc in absurd (omega arith)
known key (t ∷ u ∷ []) k = let z : ◌≡◌ {A = ℕ} 0 1 = cc in absurd (omega arith)
known key (t ∷ u ∷ flag ∷ rest) k =
    let q : (0 * 256 + t) * 256 + u ≡ t * 256 + u = omega arith in
    let m : by_flag key (t * 256 + u) flag rest ≡ pick (good_key (wildcard_flag flag) key) (on_flag key (t ∷ u ∷ flag ∷ rest) (wildcard_flag flag) (t * 256 + u) (flag_by flag (t ∷ u ∷ flag ∷ rest))) None
    = flag_means key (t ∷ u ∷ flag ∷ rest) (t * 256 + u) flag in
    let s : is_some (by_flag key (t * 256 + u) flag rest) ≡ true = rw q at k in
    let n : by_flag key (t * 256 + u) flag rest ≡ on_flag key (t ∷ u ∷ flag ∷ rest) (wildcard_flag flag) (t * 256 + u) (flag_by flag (t ∷ u ∷ flag ∷ rest))
    = m ∙ some_of _ _ (rw m at s) in
    record {
      long = omega arith;
      whole = flag_whole key (t ∷ u ∷ flag ∷ rest) (wildcard_flag flag) (t * 256 + u) (flag_by flag (t ∷ u ∷ flag ∷ rest)) (rw n at s);
      means = flag_seen key (t ∷ u ∷ flag ∷ rest) (wildcard_flag flag) (t * 256 + u) (flag_by flag (t ∷ u ∷ flag ∷ rest)) ∙ sym n ∙ rw q;
    }

pub some_seen : (key rdata : List ℕ) (o : Option Seen) → is_some (seen_record key rdata o) ≡ true → is_some o ≡ true
unfolding seen_record is_some
some_seen key rdata None k = k
some_seen key rdata (Some r) k = refl

pub seen_there : (key rdata : List ℕ) (o : Option Seen) → is_some (record_in key rdata) ≡ true → seen_record key rdata o ≡ record_in key rdata → is_some o ≡ true
seen_there key rdata o k e = some_seen key rdata o (rw (← e) at k)

-- a location that is known
module _ (key rdata : List ℕ) (k : is_some (record_in key rdata) ≡ true) (t : Bool) (q : t ≡ (leb 2 (length key) && eqb (get_or key 0 0) 0)) (y : t ≡ true) (o : Option Seen)
    (e : seen_record key rdata o ≡ location_in (get_or key 1 0) (drop 2 key) rdata) where
  pub location_there : IsSome o
  location_there = is_there o (seen_there key rdata o k (location_key rdata key t o q y e))

  pub location_means : (r : Seen) → o ≡ Some r → seen_record key rdata (Some r) ≡ record_in key rdata
  location_means r p = rw (← p) (location_key rdata key t o q y e)

module _ (key rdata : List ℕ) (k : is_some (record_in key rdata) ≡ true) (t : Bool) (q : t ≡ (leb 2 (length key) && eqb (get_or key 0 0) 0)) (y : t ≡ false) where
  key_there : (key : List ℕ) → is_some (record_in key rdata) ≡ true → length key ≡ 0 → ⊥
  unfolding record_in is_some
  key_there [] k h = let z : ◌≡◌ {A = ℕ} 0 1 = cc in omega arith
  key_there (b ∷ key) k h = omega arith

  is_known : Known key rdata
  is_known = known key rdata (rw (← (name_is rdata key t (key_there key k) q y)) at k)

  pub known_long : 3 ≤ length rdata
  known_long = is_known.long

  pub known_whole : is_some (flag_in rdata) ≡ true
  known_whole = is_known.whole

  pub known_there : is_some (seen_in rdata) ≡ true
  known_there = seen_there key rdata (seen_in rdata) k (is_known.means ∙ name_is rdata key t (key_there key k) q y)

  pub known_means : (r : Seen) → Some r ≡ seen_in rdata → seen_record key rdata (Some r) ≡ record_in key rdata
  known_means r e = ap (seen_record key rdata) e ∙ is_known.means ∙ name_is rdata key t (key_there key k) q y

pub known_fixed : (key rdata : List ℕ) (r : Seen) → Some r ≡ seen_in rdata → fixed_in (Some r) ≤ length rdata
unfolding seen_in
known_fixed key rdata r e = rw e (flag_fixed key rdata _ _ (flag_in rdata))

pub ruleset known_laws = (rules, location_there, location_means, key_long, known_long, known_there, known_means, known_fixed)
