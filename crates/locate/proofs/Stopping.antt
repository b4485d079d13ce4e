-- Records that are nothing to the pass, and the one at which it stops.
use mathlib.Core.Path.{◌≡◌, refl, ap, ◌∙◌, sym}
use mathlib.Core.Bool.{Bool, true, false, not}
use mathlib.Core.List.{List, [], ◌∷◌, ◌++◌}
use Rattle.std.specs.Prelude.{Option, Some, None}
use Prim.Native.Nat.{ℕ, ◌-◌, ◌≤◌}
use native.Mathlib.Omega.{arith}
use borrow.Author.Rules.{rules}
use borrow.Author.Tests.{not-false}
use lib.ListN.{length, take, drop}
use Rattle.rules.specs.Lists.{pick}
use Rattle.rules.specs.Records.{Record, location, resource}
use Rattle.rules.specs.Bytes.{wild, size_of_all}
use Rattle.rules.specs.Questions.{Best, better, best_of}
use Rattle.rules.specs.Reading.{record_in, onto_records, decode}
use Rattle.rules.proofs.Meaning.{sizes_add}
use Rattle.judge.proofs.Shapes.{shaped}
use Rattle.stream.specs.declared.Span.{Span}
use Rattle.stream.specs.Spans.{part, IsSpan}
use Rattle.stream.proofs.Joins.{no_part, parts_join, record_part}
use Rattle.ranks.specs.Ranks.{ends_in, rank_in, largest, seen_rank}
use Rattle.ranks.specs.declared.Role.{Role}
use Rattle.picks.proofs.Picking.{ends}
use Rattle.locate.specs.declared.Step.{Step}
use Rattle.locate.specs.Locations.{located_from}
use Rattle.locate.specs.Reaches.{Plain}
use Rattle.locate.specs.Steps.{Stepped, malformed, located, seen, plain, may_answer, may_control, related_step, step_seen, step_of}
use Rattle.locate.specs.Stops.{IsStop}
use Rattle.locate.proofs.Covering.{Read, NoRank, located_rank, unended, no_answer, no_control}
use Rattle.locate.proofs.Unranked.{one_more}

-- ---- one record

not_located : (t a b : Bool) (lo : List ℕ) → pick t (seen a b) (seen false false) ≡ located lo → ⊥
unfolding pick
not_located true a b lo e = let z : ◌≡◌ {A = ℕ} 0 1 = cc in omega arith
not_located false a b lo e = let z : ◌≡◌ {A = ℕ} 0 1 = cc in omega arith

not_malformed : (t a b : Bool) → pick t (seen a b) (seen false false) ≡ malformed → ⊥
unfolding pick
not_malformed true a b e = let z : ◌≡◌ {A = ℕ} 0 1 = cc in omega arith
not_malformed false a b e = let z : ◌≡◌ {A = ℕ} 0 1 = cc in omega arith

module _ (name key : List ℕ) where
  pub step_none : (o : Option Record) → step_of name key o ≡ malformed → o ≡ None
  unfolding step_of related_step
  step_none None e = refl
  step_none (Some (location prefix lo)) e = let z : ◌≡◌ {A = ℕ} 0 1 = cc in absurd (omega arith)
  step_none (Some (resource owner type lo ttl time rdata)) e = absurd (not_malformed (ends_in name key) _ _ e)

  -- a record with an owner leaves the location as it is
  pub step_same : (client : List ℕ) (best : Best) (a b : Bool) (o : Option Record) (ds : Option (List Record)) → step_of name key o ≡ seen a b
      → located_from client best (onto_records o ds) ≡ located_from client best ds
  unfolding step_of located_from onto_records best_of better
  step_same client best a b None ds e = let z : ◌≡◌ {A = ℕ} 0 1 = cc in absurd (omega arith)
  step_same client best a b (Some (location prefix lo)) ds e = let z : ◌≡◌ {A = ℕ} 0 1 = cc in absurd (omega arith)
  step_same client best a b (Some (resource owner type lo ttl time rdata)) None e = refl
  step_same client best a b (Some (resource owner type lo ttl time rdata)) (Some rs) e = refl

  -- a location's prefix stands in its key
  pub is_location_lem : (rdata lo : List ℕ) → step_of name key (record_in key rdata) ≡ located lo → (record_in key rdata ≡ Some (location (drop 2 key) lo)) × (2 ≤ length key)
  is_location_lem rdata lo e = go (record_in key rdata) refl e
    where
      go : (o : Option Record) → record_in key rdata ≡ o → step_of name key o ≡ located lo → (record_in key rdata ≡ Some (location (drop 2 key) lo)) × (2 ≤ length key)
      go None q e = unfold step_of in (let z : ◌≡◌ {A = ℕ} 0 1 = cc in absurd (omega arith))
      go (Some (location prefix l)) q e = unfold step_of in
          let k : key ≡ 0 ∷ 37 ∷ prefix = (shaped key rdata (location prefix l) q).0 in
          let d : prefix ≡ drop 2 key = sym (ap (drop 2) k) in
          let m : l ≡ lo = cc in
          (rw (← d, ← m) q, omega (arith, ap length k))
      go (Some (resource owner type l ttl time rd)) q e = absurd (unfold step_of related_step in not_located (ends_in name key) _ _ lo e)

-- what was met: a record, and in which roles it has no rank
pub record Met (name key rdata : List ℕ) (a b : Bool) : Type 0 where
  pub read : Read name key rdata
  pub level : a ≡ false → NoRank name key rdata Role.Level
  pub control : b ≡ false → NoRank name key rdata Role.Control
  pub zone : b ≡ false → NoRank name key rdata Role.Zone

module _ (name key rdata : List ℕ) where
  pub met_location : (prefix lo : List ℕ) → record_in key rdata ≡ Some (location prefix lo) → Met name key rdata false false
  met_location prefix lo q = record {
    read = record { rec = location prefix lo; is = q };
    level = λ z. located_rank name key rdata Role.Level prefix lo q;
    control = λ z. located_rank name key rdata Role.Control prefix lo q;
    zone = λ z. located_rank name key rdata Role.Zone prefix lo q;
  }

  pub met : (a b : Bool) → step_of name key (record_in key rdata) ≡ seen a b → Met name key rdata a b
  met a b e = go (record_in key rdata) refl e
    where
      go : (o : Option Record) → record_in key rdata ≡ o → step_of name key o ≡ seen a b → Met name key rdata a b
      go None q e = unfold step_of in (let z : ◌≡◌ {A = ℕ} 0 1 = cc in absurd (omega arith))
      go (Some (location prefix lo)) q e = unfold step_of in (let z : ◌≡◌ {A = ℕ} 0 1 = cc in absurd (omega arith))
      go (Some (resource owner type lo ttl time rd)) q e = by (ends_in name key) refl (unfold step_of related_step in e)
        where
          by : (t : Bool) → ends_in name key ≡ t → pick t (seen (may_answer name key (wild owner)) (may_control (wild owner) type)) (seen false false) ≡ seen a b → Met name key rdata a b
          by true u p = unfold pick in
              let x : may_answer name key (wild owner) ≡ a = cc in
              let y : may_control (wild owner) type ≡ b = cc in
              record {
                read = record { rec = resource owner type lo ttl time rd; is = q };
                level = λ z. no_answer name key rdata owner lo rd type ttl time q (x ∙ z);
                control = λ z. (no_control name key rdata owner lo rd type ttl time q (y ∙ z)).0;
                zone = λ z. (no_control name key rdata owner lo rd type ttl time q (y ∙ z)).1;
              }
          by false u p = record {
            read = record { rec = resource owner type lo ttl time rd; is = q };
            level = λ z. unended name key rdata owner lo rd type ttl time q Role.Level u;
            control = λ z. unended name key rdata owner lo rd type ttl time q Role.Control u;
            zone = λ z. unended name key rdata owner lo rd type ttl time q Role.Zone u;
          }

-- ---- records that are nothing to the pass

plain_seen : (s : Stepped) → plain s ≡ true → s ≡ seen false false
unfolding plain
plain_seen malformed e = let z : ◌≡◌ {A = ℕ} 0 1 = cc in absurd (omega arith)
plain_seen (located lo) e = let z : ◌≡◌ {A = ℕ} 0 1 = cc in absurd (omega arith)
plain_seen (seen false false) e = refl
plain_seen (seen true b) e = let z : ◌≡◌ {A = ℕ} 0 1 = cc in absurd (omega arith)
plain_seen (seen false true) e = let z : ◌≡◌ {A = ℕ} 0 1 = cc in absurd (omega arith)

pub plain_none : (name stream : List ℕ) (from : ℕ) → from ≤ length stream → Plain name stream from from
unfolding size_of_all largest
plain_none name stream from h = record {
  records = [];
  ordered = omega arith;
  inside = h;
  read = no_part stream from;
  size_is = omega arith;
  unranked = λ role here moment. refl;
  unlocated = λ client best. refl;
}

module _ (name stream : List ℕ) (from at : ℕ) (p : Plain name stream from at) (span : Span) (i : IsSpan stream at span) where
  abbrev key : List ℕ
  key = take (span.middle - span.start) (drop span.start stream)

  abbrev rdata : List ℕ
  rdata = take (span.next - span.middle) (drop span.middle stream)

  module _ (r : Option Step) (q : step_seen r ≡ step_of name key (record_in key rdata)) where
    pub plain_more : (t : Bool) → t ≡ plain (step_seen r) → not t ≡ false → Plain name stream from span.next
    unfolding size_of_all part
    plain_more t b n =
        let e : step_of name key (record_in key rdata) ≡ seen false false = sym q ∙ plain_seen (step_seen r) (sym b ∙ not-false t n) in
        let m = met name key rdata false false e in
        let o = m.read in
        record {
          records = p.records ++ (o.rec ∷ []);
          ordered = omega (arith, p.ordered, i.goes_on);
          inside = i.inside;
          read = parts_join stream from at span.next _ _ p.ordered (omega (arith, i.goes_on)) i.inside p.read (record_part stream at span i o.rec o.is);
          size_is = omega (arith, sizes_add p.records (o.rec ∷ []), p.size_is, ends stream at span i o.rec o.is);
          unranked = λ role here moment. one_more (seen_rank role name here moment) p.records o.rec (p.unranked role here moment) (no_rank m role here moment);
          unlocated = λ client best. p.unlocated client best ∙ rw i.says (step_same name key client best false false _ (decode (drop span.next stream)) e);
        }
      where
        no_rank : (m : Met name key rdata false false) (role : Role) (here : List ℕ) (moment : ℕ) → 0 ≡ seen_rank role name here moment m.read.rec
        no_rank m Role.Level here moment = unfold rank_in in (m.level refl here moment ∙ ap (rank_in Role.Level name here moment) m.read.is)
        no_rank m Role.Control here moment = unfold rank_in in (m.control refl here moment ∙ ap (rank_in Role.Control name here moment) m.read.is)
        no_rank m Role.Zone here moment = unfold rank_in in (m.zone refl here moment ∙ ap (rank_in Role.Zone name here moment) m.read.is)

    pub stops_at : IsStop name stream from (Some (record { step = r; at = at; span = span }))
    stops_at = record { plain = p; span = i; is = q }

pub stops_nowhere : (name stream : List ℕ) (from at : ℕ) → Plain name stream from at → length stream ≤ at → IsStop name stream from None
stops_nowhere name stream from at p h = let e : at ≡ length stream = omega (arith, p.inside) in rw e at p

pub ruleset stop_laws = (rules, plain_none, plain_more, stops_at, stops_nowhere)
