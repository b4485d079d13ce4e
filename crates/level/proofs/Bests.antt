-- The pass that finds the largest rank.
use mathlib.Core.Path.{◌≡◌, refl, ap, ◌∙◌, sym}
use mathlib.Core.Bool.{Bool, true, false, not}
use mathlib.Core.List.{List, [], ◌∷◌, map}
use Rattle.std.specs.Prelude.{Option, Some, None}
use Prim.Native.Nat.{ℕ, ◌-◌, ◌<◌, ◌≤◌, max}
use native.Mathlib.Omega.{arith}
use borrow.Author.Rules.{rules}
use borrow.Author.Tests.{not-true}
use lib.ListN.{length, take, drop, drop_of_length-le}
use Rattle.rules.specs.Lists.{pick, lower, is_some, value_or}
use Rattle.rules.specs.Names.{is_wire}
use Rattle.rules.specs.Records.{Record}
use Rattle.rules.specs.Questions.{visible}
use Rattle.rules.specs.Reading.{record_in, onto_records, decode}
use Rattle.rules.proofs.Names.{Wire}
use Rattle.rules.proofs.Decoding.{wire_lower}
use Rattle.stream.specs.declared.Span.{Span}
use Rattle.stream.specs.Spans.{part, IsSpan}
use Rattle.stream.proofs.Heads.{decode_nil}
use Rattle.ranks.specs.Ranks.{role_rank, ends_in, largest, seen_rank, rank_in}
use Rattle.ranks.specs.declared.Role.{Role}
use Rattle.ranks.proofs.KeyRanks.{unrelated}
use Rattle.ranks.proofs.Related.{not_end}
use Rattle.level.proofs.Controls.{most_role}

-- ---- a place of whole records

record Onto (o : Option Record) (ds : Option (List Record)) : Type 0 where
  rec : Record
  first : o ≡ Some rec
  both : value_or [] (onto_records o ds) ≡ rec ∷ value_or [] ds
  rest : is_some ds ≡ true

onto_some : (o : Option Record) (ds : Option (List Record)) → is_some (onto_records o ds) ≡ true → Onto o ds
unfolding is_some onto_records value_or
onto_some None ds e = let z : ◌≡◌ {A = ℕ} 0 1 = cc in absurd (omega arith)
onto_some (Some r) None e = let z : ◌≡◌ {A = ℕ} 0 1 = cc in absurd (omega arith)
onto_some (Some r) (Some rs) e = record { rec = r; first = refl; both = refl; rest = refl }

-- its record, and the rest
pub record Whole (stream : List ℕ) (at : ℕ) (span : Span) : Type 0 where
  pub rec : Record
  pub read : record_in (take (span.middle - span.start) (drop span.start stream)) (take (span.next - span.middle) (drop span.middle stream)) ≡ Some rec
  pub more : value_or [] (decode (drop at stream)) ≡ rec ∷ value_or [] (decode (drop span.next stream))
  pub rest : is_some (decode (drop span.next stream)) ≡ true

pub whole_at : (stream : List ℕ) (at : ℕ) (span : Span) → IsSpan stream at span → is_some (decode (drop at stream)) ≡ true → Whole stream at span
unfolding part
whole_at stream at span i e =
    let o = onto_some _ _ (rw i.says at e) in
    record { rec = o.rec; read = o.first; more = ap (value_or []) i.says ∙ o.both; rest = o.rest }

pub record_whole : (stream : List ℕ) (at : ℕ) (span : Span) → IsSpan stream at span → is_some (decode (drop at stream)) ≡ true
    → is_some (record_in (take (span.middle - span.start) (drop span.start stream)) (take (span.next - span.middle) (drop span.middle stream))) ≡ true
unfolding is_some
record_whole stream at span i e = ap is_some (whole_at stream at span i e).read

pub rest_whole : (stream : List ℕ) (at : ℕ) (span : Span) → IsSpan stream at span → is_some (decode (drop at stream)) ≡ true → is_some (decode (drop span.next stream)) ≡ true
rest_whole stream at span i e = (whole_at stream at span i e).rest

-- ---- the pass

module _ (role : Role) (name here : List ℕ) (moment : ℕ) (stream : List ℕ) (best at all : ℕ)
    (e : max best (largest (seen_rank role name here moment) (value_or [] (decode (drop at stream)))) ≡ all) where
  module _ (w : is_some (decode (drop at stream)) ≡ true) (span : Span) (i : IsSpan stream at span) (found : ℕ)
      (q : found ≡ rank_in role name here moment (record_in (take (span.middle - span.start) (drop span.start stream)) (take (span.next - span.middle) (drop span.middle stream)))) where
    is_found_lem : largest (seen_rank role name here moment) (value_or [] (decode (drop at stream))) ≡ max found (largest (seen_rank role name here moment) (value_or [] (decode (drop span.next stream))))
    unfolding largest rank_in
    is_found_lem =
        let r = whole_at stream at span i w in
        rw (r.more, q, r.read)

    pub larger : best < found → max found (largest (seen_rank role name here moment) (value_or [] (decode (drop span.next stream)))) ≡ all
    larger h = omega (arith, is_found_lem)

    pub no_larger : found ≤ best → max best (largest (seen_rank role name here moment) (value_or [] (decode (drop span.next stream)))) ≡ all
    no_larger h = omega (arith, is_found_lem)

  -- a record whose key isn't the end of the name
  pub passed_over : (w : is_some (decode (drop at stream)) ≡ true) (span : Span) (i : IsSpan stream at span) (t : Bool)
      → t ≡ ends_in name (take (span.middle - span.start) (drop span.start stream)) → not t ≡ true
      → max best (largest (seen_rank role name here moment) (value_or [] (decode (drop span.next stream)))) ≡ all
  passed_over w span i t q n = no_larger w span i 0 (unrelated role name here moment _ _ false (not_end name _ (sym q ∙ not-true t n)) refl) (omega arith)

  pub largest_found : length stream ≤ at → best ≡ all
  unfolding largest value_or
  largest_found h =
      let z : largest (seen_rank role name here moment) (value_or [] (decode (drop at stream))) ≡ 0 = rw (drop_of_length-le stream h, decode_nil) in
      omega arith

-- ---- the most that a rank can be

most_seen : (role : Role) (name here : List ℕ) (moment : ℕ) → Wire name → (rs : List Record) → largest (seen_rank role name here moment) rs ≤ 256
unfolding largest seen_rank
most_seen role name here moment t [] = omega arith
most_seen role name here moment t (r ∷ rs) = omega (arith, go (visible here moment r), most_seen role name here moment t rs)
  where
    go : (b : Bool) → pick b (role_rank role name r) 0 ≤ 256
    go true = unfold pick in most_role role name t r
    go false = unfold pick in omega arith

pub most : (role : Role) (name here : List ℕ) (moment : ℕ) (stream : List ℕ) (best at all : ℕ) → is_wire name ≡ true
    → max best (largest (seen_rank role (map lower name) here moment) (value_or [] (decode (drop at stream)))) ≡ all → best ≡ 256 → best ≡ all
most role name here moment stream best at all w e h =
    omega (arith, most_seen role (map lower name) here moment (wire_lower name (rw w tt)) (value_or [] (decode (drop at stream))))

pub none_yet : (n : ℕ) → max 0 n ≡ n
none_yet n = omega arith

pub ruleset best_laws = (rules, none_yet, record_whole, rest_whole, larger, no_larger, passed_over, largest_found, most)
