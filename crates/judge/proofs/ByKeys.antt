-- The answers by type and key, against the rules of reading.
use mathlib.Core.Path.{◌≡◌, refl, ap, ◌∙◌, sym}
use mathlib.Core.Bool.{Bool, true, false, ◌&&◌}
use mathlib.Core.List.{List, [], ◌∷◌}
use Rattle.std.specs.Prelude.{Option, Some, None}
use Prim.Native.Nat.{ℕ, zero, suc, ◌+◌, ◌*◌, ◌<◌, ◌≤◌}
use native.Mathlib.Omega.{arith}
use borrow.Author.Rules.{rules}
use borrow.Author.Tests.{eq-eqb, ne_eqb, le-leb, lt-leb, leb-true}
use lib.Dec.{eqb, leb}
use lib.ListN.{length, drop, get_or, length-drop}
use Rattle.rules.specs.declared.quantities.Lo.{Lo}
use Rattle.rules.specs.Lists.{pick, from_be}
use Rattle.rules.specs.Records.{location, lo_bytes}
use Rattle.rules.specs.Reading.{is_lo, by_flag, resource_in, location_in, record_in}
use Rattle.judge.specs.declared.Seen.{Seen}
use Rattle.judge.specs.Seen.{seen_record, fixed_in}
use Rattle.judge.proofs.Meanings.{no_fixed}

-- ---- by the type

module _ (key : List ℕ) where
  pub no_flag_byte : (rdata : List ℕ) → length rdata < 3 → seen_record key rdata None ≡ resource_in key rdata
  unfolding seen_record resource_in
  no_flag_byte [] h = refl
  no_flag_byte (t ∷ []) h = refl
  no_flag_byte (t ∷ u ∷ []) h = refl
  no_flag_byte (t ∷ u ∷ v ∷ r) h = absurd (omega arith)

  pub typed : (rdata : List ℕ) (type : ℕ) (r : Option Seen) → 3 ≤ length rdata → type ≡ get_or rdata 0 0 * 256 + get_or rdata 1 0
      → seen_record key rdata r ≡ by_flag key type (get_or rdata 2 0) (drop 3 rdata) → seen_record key rdata r ≡ resource_in key rdata
  unfolding resource_in from_be
  typed [] type r h a e = absurd (omega arith)
  typed (t ∷ []) type r h a e = absurd (omega arith)
  typed (t ∷ u ∷ []) type r h a e = absurd (omega arith)
  typed (t ∷ u ∷ v ∷ rest) type r h a e =
      let q : type ≡ (0 * 256 + t) * 256 + u = omega arith in
      rw q at e

pub ruleset type_laws = (rules, no_flag_byte, typed, no_fixed)

-- ---- a location

pub location_fixed : (rdata : List ℕ) (lo : Lo) → fixed_in (Some (Seen.Location lo)) ≤ length rdata
unfolding fixed_in
location_fixed rdata lo = omega arith

module _ (key rdata : List ℕ) where
  pub no_mark : (get_or key 1 0 ≡ 37 → ⊥) → seen_record key rdata None ≡ location_in (get_or key 1 0) (drop 2 key) rdata
  unfolding seen_record location_in pick
  no_mark h = rw (ne_eqb _ _ h)

  module _ (mark : get_or key 1 0 ≡ 37) where
    pub prefix_long : 6 < length key → seen_record key rdata None ≡ location_in (get_or key 1 0) (drop 2 key) rdata
    unfolding seen_record location_in pick
    prefix_long h = rw (eq-eqb _ _ mark, lt-leb (length (drop 2 key)) 4 (omega (arith, length-drop 2 key)))

    module _ (two : 2 ≤ length key) (short : length key ≤ 6) where
      prefix_short : leb (length (drop 2 key)) 4 ≡ true
      prefix_short = le-leb (length (drop 2 key)) 4 (omega (arith, length-drop 2 key))

      no_lo : (rdata : List ℕ) → (length rdata ≡ 2 → ⊥) → is_lo rdata ≡ false
      unfolding is_lo
      no_lo [] h = refl
      no_lo (a ∷ []) h = refl
      no_lo (a ∷ b ∷ []) h = absurd (h refl)
      no_lo (a ∷ b ∷ c ∷ r) h = refl

      bytes_of : (rdata : List ℕ) → length rdata ≡ 2 → rdata ≡ get_or rdata 0 0 ∷ get_or rdata 1 0 ∷ []
      bytes_of [] h = absurd (omega arith)
      bytes_of (a ∷ []) h = absurd (omega arith)
      bytes_of (a ∷ b ∷ []) h = refl
      bytes_of (a ∷ b ∷ c ∷ r) h = absurd (omega arith)

      pub not_two : (length rdata ≡ 2 → ⊥) → seen_record key rdata None ≡ location_in (get_or key 1 0) (drop 2 key) rdata
      unfolding seen_record location_in pick
      not_two h = rw (eq-eqb _ _ mark, prefix_short, no_lo rdata h)

      module _ (l : length rdata ≡ 2) (t : Bool) (q : t ≡ is_lo (get_or rdata 0 0 ∷ get_or rdata 1 0 ∷ [])) where
        code_is : is_lo rdata ≡ t
        code_is = ap is_lo (bytes_of rdata l) ∙ sym q

        pub coded : t ≡ true → seen_record key rdata (Some (Seen.Location (Lo.Code (get_or rdata 0 0) (get_or rdata 1 0)))) ≡ location_in (get_or key 1 0) (drop 2 key) rdata
        unfolding seen_record location_in pick lo_bytes
        coded y = rw (eq-eqb _ _ mark, prefix_short, code_is, y) (ap (λ (lo : List ℕ). Some (location (drop 2 key) lo)) (sym (bytes_of rdata l)))

        pub not_coded : t ≡ false → seen_record key rdata None ≡ location_in (get_or key 1 0) (drop 2 key) rdata
        unfolding seen_record location_in pick
        not_coded y = rw (eq-eqb _ _ mark, prefix_short, code_is, y)

pub ruleset location_laws = (rules, no_mark, prefix_long, not_two, coded, not_coded, no_fixed, location_fixed)

-- ---- by the key

module _ (rdata : List ℕ) where
  pub no_key : (key : List ℕ) → length key ≡ 0 → seen_record key rdata None ≡ record_in key rdata
  unfolding seen_record record_in
  no_key [] h = refl
  no_key (b ∷ key) h = absurd (omega arith)

  pub name_is : (key : List ℕ) (t : Bool) → (length key ≡ 0 → ⊥) → t ≡ (leb 2 (length key) && eqb (get_or key 0 0) 0) → t ≡ false → resource_in key rdata ≡ record_in key rdata
  unfolding record_in
  name_is [] t h q y = absurd (h refl)
  name_is (zero ∷ []) t h q y = refl
  name_is (zero ∷ b ∷ key) t h q y =
      let p : leb 2 (length (zero ∷ b ∷ key)) ≡ true = le-leb 2 (length (zero ∷ b ∷ key)) (omega arith) in
      let z : ◌≡◌ {A = Bool} true false = rw p at (sym q ∙ y) in
      let y : ◌≡◌ {A = ℕ} 0 1 = cc in
      absurd (omega arith)
  name_is (suc b ∷ key) t h q y = refl

  pub name_key : (key : List ℕ) (t : Bool) (r : Option Seen) → (length key ≡ 0 → ⊥) → t ≡ (leb 2 (length key) && eqb (get_or key 0 0) 0) → t ≡ false
      → seen_record key rdata r ≡ resource_in key rdata → seen_record key rdata r ≡ record_in key rdata
  name_key key t r h q y e = e ∙ name_is key t h q y

  pub location_key : (key : List ℕ) (t : Bool) (r : Option Seen) → t ≡ (leb 2 (length key) && eqb (get_or key 0 0) 0) → t ≡ true
      → seen_record key rdata r ≡ location_in (get_or key 1 0) (drop 2 key) rdata → seen_record key rdata r ≡ record_in key rdata
  unfolding record_in
  location_key [] t r q y e = let z : ◌≡◌ {A = ℕ} 0 1 = cc in absurd (omega arith)
  location_key (zero ∷ []) t r q y e = let z : ◌≡◌ {A = ℕ} 0 1 = cc in absurd (omega arith)
  location_key (suc b ∷ []) t r q y e = let z : ◌≡◌ {A = ℕ} 0 1 = cc in absurd (omega arith)
  location_key (zero ∷ b ∷ key) t r q y e = e
  location_key (suc a ∷ b ∷ key) t r q y e =
      let p : leb 2 (length (suc a ∷ b ∷ key)) ≡ true = le-leb 2 (length (suc a ∷ b ∷ key)) (omega arith) in
      let z : ◌≡◌ {A = Bool} false true = rw (p, ne_eqb (suc a) 0 (λ z. omega arith)) at (sym q ∙ y) in
      let y : ◌≡◌ {A = ℕ} 0 1 = cc in
      absurd (omega arith)

  pub key_long : (key : List ℕ) (t : Bool) → t ≡ (leb 2 (length key) && eqb (get_or key 0 0) 0) → t ≡ true → 2 ≤ length key
  key_long key t q y = go (leb 2 (length key)) refl (sym q ∙ y)
    where
      go : (u : Bool) → leb 2 (length key) ≡ u → (u && eqb (get_or key 0 0) 0) ≡ true → 2 ≤ length key
      go true e h = leb-true 2 (length key) e
      go false e h = let z : ◌≡◌ {A = ℕ} 0 1 = cc in absurd (omega arith)

pub ruleset record_laws = (rules, no_key, name_key, location_key, key_long, no_fixed)
