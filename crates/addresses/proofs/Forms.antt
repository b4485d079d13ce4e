-- The laws of an address, from what its numbers or its groups tell.
use Rattle.std.proofs.Common.{◌≡◌, refl, ap, ◌∙◌, sym, ℕ, suc, ◌<◌, List, [], ◌∷◌, length, map, get_or, Some, None, Bool, true, false, ◌&&◌, arith, leb, eqb}
use Rattle.std.proofs.lemmas.Option.{none-some}
use borrow.Author.Tests.{le-leb, eqb-true, eq-eqb, ne_eqb}
use Rattle.rules.specs.Lists.{pick, has, all, split_on, join_all}
use Rattle.rules.specs.Fields.{octet, octet_byte, address_if, address_of}
use Rattle.octets.specs.Octets.{octets_of}
use Rattle.groups.specs.Groups.{groups_of}
use Rattle.addresses.specs.Addresses.{dotted_address, grouped_address}

module _ (t : List ℕ) where
  pub grouped : groups_of t ≡ grouped_address t
  unfolding groups_of grouped_address
  grouped = refl

  module _ (r : Bool) (p : r ≡ has 95 t) where
    pub by_groups : r ≡ true → grouped_address t ≡ address_of t
    unfolding address_of grouped_address pick
    by_groups q = rw (← p, q) refl

    pub by_dots : r ≡ false → dotted_address t ≡ address_of t
    unfolding address_of dotted_address pick
    by_dots q = rw (← p, q) refl

-- each number is one byte
as_many : (ps : List (List ℕ)) → length (join_all (map octet_byte ps)) ≡ length ps
unfolding join_all octet_byte
as_many [] = refl
as_many (p ∷ ps) = ap suc (as_many ps)

module _ (t : List ℕ) where
  pub no_numbers : None ≡ octets_of t → None ≡ dotted_address t
  unfolding octets_of dotted_address address_if pick
  no_numbers e = by (eqb (length (split_on 46 t)) 4) refl
    where
      by : (u : Bool) → eqb (length (split_on 46 t)) 4 ≡ u → None ≡ pick (u && all octet (split_on 46 t)) (Some (join_all (map octet_byte (split_on 46 t)))) None
      by true q = let l = eqb-true (length (split_on 46 t)) 4 q in e ∙ rw (le-leb (length (split_on 46 t)) 4 (omega arith)) refl
      by false q = refl

  module _ (bytes : List ℕ) (e : Some bytes ≡ octets_of t) where
    numbers : length bytes ≡ length (split_on 46 t)
    unfolding octets_of address_if pick
    numbers = by (leb (length (split_on 46 t)) 4 && all octet (split_on 46 t)) e
      where
        by : (u : Bool) → Some bytes ≡ pick u (Some (join_all (map octet_byte (split_on 46 t)))) None → length bytes ≡ length (split_on 46 t)
        by true e = let q : bytes ≡ join_all (map octet_byte (split_on 46 t)) = cc in rw q (as_many (split_on 46 t))
        by false e = absurd (none-some _ (sym e))

    pub too_few : length bytes < 4 → None ≡ dotted_address t
    unfolding dotted_address address_if pick
    too_few h = rw (ne_eqb (length (split_on 46 t)) 4 (λ q. omega (arith, numbers, q))) refl

    pub just_four : length bytes ≡ 4 → Some bytes ≡ dotted_address t
    unfolding dotted_address octets_of address_if
    just_four h =
        e ∙ rw (le-leb (length (split_on 46 t)) 4 (omega (arith, numbers)), eq-eqb (length (split_on 46 t)) 4 (sym numbers ∙ h)) refl

pub four : (s : List ℕ) → length s ≡ 4 → get_or s 0 0 ∷ get_or s 1 0 ∷ get_or s 2 0 ∷ get_or s 3 0 ∷ [] ≡ s
four [] h = absurd (omega arith)
four (a ∷ []) h = absurd (omega arith)
four (a ∷ b ∷ []) h = absurd (omega arith)
four (a ∷ b ∷ c ∷ []) h = absurd (omega arith)
four (a ∷ b ∷ c ∷ d ∷ []) h = refl
four (a ∷ b ∷ c ∷ d ∷ e ∷ s) h = absurd (omega arith)
