-- What the code answers of one record means what the rules read.
use Rattle.std.specs.Prelude.{Option, Some, None}
use mathlib.Core.Path.{◌≡◌, refl, ap, ◌∙◌, sym}
use mathlib.Core.Bool.{Bool, true, false, not, ◌||◌}
use mathlib.Core.List.{List, [], ◌∷◌}
use Prim.Native.Nat.{ℕ, ◌+◌, ◌-◌, ◌<◌, ◌≤◌}
use native.Mathlib.Omega.{arith}
use borrow.Author.Rules.{rules}
use borrow.Author.Tests.{eqb-true, ne_eqb, le-leb, lt-leb, lt-ltb, le-ltb, not-true, not-false}
use lib.ListN.{length, take, drop, get_or}
use lib.Seq.{drop-cons}
use lib.Dec.{eqb}
use Rattle.rules.specs.declared.quantities.Lo.{Lo}
use Rattle.rules.specs.declared.quantities.Shared.{Shared}
use Rattle.rules.specs.Lists.{pick, from_be}
use Rattle.rules.specs.Fields.{largest_ttl}
use Rattle.rules.specs.Reading.{is_lo, moment_end}
use Rattle.wire.proofs.Parts.{tail_lent}
use Rattle.judge.specs.declared.Seen.{Seen}
use Rattle.judge.specs.Seen.{shared_in, seen_with, wildcard_flag, lo_in, lo_flag, flag_by, flag_in}

-- ---- ttl and time

module _ (lo : Lo) (rest : List ℕ) where
  pub fields_short : length rest < 12 → None ≡ shared_in lo rest
  unfolding shared_in pick
  fields_short h = rw (lt-leb 12 (length rest) h)

  module _ (long : 12 ≤ length rest) (ttl : ℕ) (e : ttl ≡ from_be 0 (take 4 rest)) where
    pub ttl_beyond : 2147483647 < ttl → None ≡ shared_in lo rest
    unfolding shared_in largest_ttl pick
    ttl_beyond h = rw (← e, le-leb 12 (length rest) long, lt-leb ttl 2147483647 h)

    module _ (small : ttl ≤ 2147483647) (time : ℕ) (f : time ≡ from_be 0 (take 8 (drop 4 rest))) where
      pub time_beyond : 9223372036854775807 < time → None ≡ shared_in lo rest
      unfolding shared_in largest_ttl moment_end pick
      time_beyond h = rw (← e, ← f, le-leb 12 (length rest) long, le-leb ttl 2147483647 small, le-ltb time 9223372036854775808 (omega arith))

      pub fields_whole : time ≤ 9223372036854775807 → Some (record { ttl = record { 0 = ttl }; time = record { 0 = time }; lo = lo }) ≡ shared_in lo rest
      unfolding shared_in largest_ttl moment_end pick
      fields_whole h = rw (← e, ← f, le-leb 12 (length rest) long, le-leb ttl 2147483647 small, lt-ltb time 9223372036854775808 (omega arith))

pub ruleset fields_laws = (rules, fields_short, ttl_beyond, time_beyond, fields_whole)

-- ---- behind the flag

module _ (rdata : List ℕ) (w : Bool) (type : ℕ) (lo : Lo) (at : ℕ) where
  pub fields_broken : None ≡ shared_in lo (take (length rdata - at) (drop at rdata)) → None ≡ seen_with w type (at + 12) (shared_in lo (drop at rdata))
  unfolding seen_with
  fields_broken b = rw (← (tail_lent rdata at), ← b)

  pub fields_there : (shared : Shared) → Some shared ≡ shared_in lo (take (length rdata - at) (drop at rdata))
      → Some (Seen.Resource w type shared (at + 12)) ≡ seen_with w type (at + 12) (shared_in lo (drop at rdata))
  unfolding seen_with
  fields_there shared b = rw (← (tail_lent rdata at), ← b)

pub ruleset behind_laws = (rules, fields_broken, fields_there)

-- ---- lo behind the flag

short_lo : (rdata : List ℕ) → 3 ≤ length rdata → length rdata < 5 → is_lo (take 2 (drop 3 rdata)) ≡ false
unfolding is_lo
short_lo [] l h = absurd (omega arith)
short_lo (a ∷ []) l h = absurd (omega arith)
short_lo (a ∷ b ∷ []) l h = absurd (omega arith)
short_lo (a ∷ b ∷ c ∷ []) l h = refl
short_lo (a ∷ b ∷ c ∷ d ∷ []) l h = refl
short_lo (a ∷ b ∷ c ∷ d ∷ e ∷ r) l h = absurd (omega arith)

behind_flag : (rdata : List ℕ) → 5 ≤ length rdata → drop 3 rdata ≡ get_or rdata 3 0 ∷ get_or rdata 4 0 ∷ drop 5 rdata
behind_flag rdata l = drop-cons rdata 3 0 (omega arith) ∙ ap (λ (r : List ℕ). get_or rdata 3 0 ∷ r) (drop-cons rdata 4 0 (omega arith))

two : (rdata : List ℕ) → 5 ≤ length rdata → take 2 (drop 3 rdata) ≡ get_or rdata 3 0 ∷ get_or rdata 4 0 ∷ []
two rdata l = rw (behind_flag rdata l)

pub code : (rdata : List ℕ) → 5 ≤ length rdata → lo_in (drop 3 rdata) ≡ Lo.Code (get_or rdata 3 0) (get_or rdata 4 0)
unfolding lo_in
code rdata l = rw (behind_flag rdata l)

module _ (rdata : List ℕ) where
  pub lo_short : 3 ≤ length rdata → length rdata < 5 → None ≡ lo_flag rdata
  unfolding lo_flag pick
  lo_short l h = rw (short_lo rdata l h)

  module _ (l : 5 ≤ length rdata) (v : Bool) (o : v ≡ is_lo (get_or rdata 3 0 ∷ get_or rdata 4 0 ∷ [])) where
    pub no_lo : not v ≡ true → None ≡ lo_flag rdata
    unfolding lo_flag pick
    no_lo m = rw (two rdata l, ← o, not-true v m)

    pub lo_there : not v ≡ false → Some ((Lo.Code (get_or rdata 3 0) (get_or rdata 4 0)), 5) ≡ lo_flag rdata
    unfolding lo_flag pick
    lo_there m = rw (two rdata l, ← o, not-false v m, code rdata l)

pub ruleset lo_laws = (rules, lo_short, no_lo, lo_there)

-- ---- the flag itself

pub star_flag : (flag : ℕ) → flag ≡ 42 → true ≡ wildcard_flag flag
unfolding wildcard_flag
star_flag flag e = rw e

pub plus_flag : (flag : ℕ) → flag ≡ 43 → true ≡ wildcard_flag flag
unfolding wildcard_flag
plus_flag flag e = rw e

pub other_flag : (flag : ℕ) → (flag ≡ 42 → ⊥) → (flag ≡ 43 → ⊥) → false ≡ wildcard_flag flag
unfolding wildcard_flag
other_flag flag n m = rw (ne_eqb flag 42 n, ne_eqb flag 43 m)

pub ruleset wildcard_laws = (rules, star_flag, plus_flag, other_flag)

module _ (rdata : List ℕ) where
  pub equals : get_or rdata 2 0 ≡ 61 → Some (Lo.Every, 3) ≡ flag_in rdata
  unfolding flag_in flag_by pick
  equals e = rw e

  pub star : get_or rdata 2 0 ≡ 42 → Some (Lo.Every, 3) ≡ flag_in rdata
  unfolding flag_in flag_by pick
  star e = rw e

  pub greater : (f : Option (Lo × ℕ)) → get_or rdata 2 0 ≡ 62 → f ≡ lo_flag rdata → f ≡ flag_in rdata
  unfolding flag_in flag_by pick
  greater f e q = rw e q

  module _ (w : Bool) (q : w ≡ wildcard_flag (get_or rdata 2 0)) where
    pub plus : (f : Option (Lo × ℕ)) → w ≡ true → (get_or rdata 2 0 ≡ 42 → ⊥) → f ≡ lo_flag rdata → f ≡ flag_in rdata
    unfolding flag_in flag_by pick wildcard_flag
    plus f y n p =
        let e : get_or rdata 2 0 ≡ 43 = eqb-true (get_or rdata 2 0) 43 (rw (ne_eqb _ _ n) at (sym q ∙ y)) in
        rw e p

    pub no_flag : w ≡ false → (get_or rdata 2 0 ≡ 61 → ⊥) → (get_or rdata 2 0 ≡ 62 → ⊥) → None ≡ flag_in rdata
    unfolding flag_in flag_by pick wildcard_flag
    no_flag y a b = go (eqb (get_or rdata 2 0) 42) (eqb (get_or rdata 2 0) 43) (sym q ∙ y)
      where
        go : (c d : Bool) → (c || d) ≡ false → None ≡ pick (eqb (get_or rdata 2 0) 61 || c) (Some (Lo.Every, 3)) (pick (eqb (get_or rdata 2 0) 62 || d) (lo_flag rdata) None)
        go false false z = unfold pick in rw (ne_eqb _ _ a, ne_eqb _ _ b)
        go true d z = let y : ◌≡◌ {A = ℕ} 0 1 = cc in absurd (omega arith)
        go false true z = let y : ◌≡◌ {A = ℕ} 0 1 = cc in absurd (omega arith)

pub ruleset flag_laws = (rules, equals, greater, star, plus, no_flag)
