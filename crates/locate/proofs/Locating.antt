-- The pass that judges a stream, finds the client's location, and the parts in which records may answer or make a control name.
use mathlib.Core.Path.{◌≡◌, refl, ap, ◌∙◌, sym}
use mathlib.Core.Bool.{Bool, true, false}
use mathlib.Core.List.{List}
use Rattle.std.specs.Prelude.{Option, Some, None, unwrap_or}
use Prim.Native.Nat.{ℕ, ◌-◌, ◌<◌, ◌≤◌}
use native.Mathlib.Omega.{arith}
use borrow.Author.Rules.{rules}
use lib.ListN.{length, take, drop, drop_of_length-le}
use Rattle.rules.specs.declared.quantities.Lo.{Lo}
use Rattle.rules.specs.Records.{Record, location, lo_bytes}
use Rattle.rules.specs.Questions.{Best, better, best_of, location_of}
use Rattle.rules.specs.Reading.{record_in, onto_records, decode}
use Rattle.stream.specs.declared.Span.{Span}
use Rattle.stream.specs.Spans.{part, IsSpan}
use Rattle.stream.proofs.Heads.{decode_nil}
use Rattle.ranks.specs.declared.Role.{Role}
use Rattle.locate.specs.declared.Located.{Located}
use Rattle.locate.specs.declared.Part.{Part}
use Rattle.locate.specs.declared.Step.{Step}
use Rattle.locate.specs.declared.Stop.{Stop}
use Rattle.locate.specs.Covers.{Covered}
use Rattle.locate.specs.Grown.{grown_to}
use Rattle.locate.specs.Locations.{located_in, located_from, best_seen, judged_lo}
use Rattle.locate.specs.Reaches.{Passed, Plain}
use Rattle.locate.specs.Steps.{seen, step_seen, step_of}
use Rattle.locate.specs.Stops.{IsStop}
use Rattle.locate.proofs.Covering.{Read, NoRank, at_start, passed, plain_behind, found_first, found_more, covers}
use Rattle.locate.proofs.Stopping.{step_none, step_same, is_location_lem, met_location, met}

-- ---- the pass

-- the part so far, of which nothing is taken at first
abbrev pub part_of : Option Part → Part
part_of p = unwrap_or p (record { from = 0; until = 0 })

pub record Going (client name stream : List ℕ) (best : Located) (level control : Option Part) (at : ℕ) : Type 0 where
  pub inside : at ≤ length stream
  pub located_there : located_in client (decode stream) ≡ located_from client (best_seen best) (decode (drop at stream))
  pub level_passed : Passed Role.Level name stream (part_of level).from (part_of level).until at
  pub control_passed : Passed Role.Control name stream (part_of control).from (part_of control).until at
  pub zone_passed : Passed Role.Zone name stream (part_of control).from (part_of control).until at

from_start : (client stream : List ℕ) → located_in client (decode stream) ≡ located_from client (best_seen (record { lo = Lo.Every; least = 0 })) (decode (drop 0 stream))
unfolding best_seen
from_start client stream = go (decode stream)
  where
    go : (o : Option (List Record)) → located_in client o ≡ located_from client (record { lo = lo_bytes Lo.Every; at_least = 0 }) o
    go None = unfold located_from located_in in refl
    go (Some rs) = unfold located_from located_in location_of lo_bytes in refl

pub at_first : (client name stream : List ℕ) → Going client name stream (record { lo = Lo.Every; least = 0 }) None None 0
at_first client name stream = record {
  inside = omega arith;
  located_there = from_start client stream;
  level_passed = at_start Role.Level name stream;
  control_passed = at_start Role.Control name stream;
  zone_passed = at_start Role.Zone name stream;
}

-- a location
step_better : (client : List ℕ) (best : Best) (prefix lo : List ℕ) (ds : Option (List Record))
    → located_from client best (onto_records (Some (location prefix lo)) ds) ≡ located_from client (better client best (location prefix lo)) ds
unfolding located_from onto_records best_of
step_better client best prefix lo None = refl
step_better client best prefix lo (Some rs) = refl

-- over records that are nothing to the pass
module _ (client name stream : List ℕ) (best : Located) (level control : Option Part) (at : ℕ) (g : Going client name stream best level control at) (to : ℕ) (q : Plain name stream at to) where
  plain_passed : (role : Role) (p : Part) → Passed role name stream p.from p.until at → Passed role name stream p.from p.until to
  plain_passed role p h = plain_behind role name stream p.from p.until at h to q

  moves : Going client name stream best level control to
  moves = record {
    inside = q.inside;
    located_there = g.located_there ∙ q.unlocated client (best_seen best);
    level_passed = plain_passed Role.Level (part_of level) g.level_passed;
    control_passed = plain_passed Role.Control (part_of control) g.control_passed;
    zone_passed = plain_passed Role.Zone (part_of control) g.zone_passed;
  }

-- at a record
module _ (client name stream : List ℕ) (best : Located) (level control : Option Part) (at : ℕ) (g : Going client name stream best level control at) (span : Span) (i : IsSpan stream at span) where
  abbrev key : List ℕ
  key = take (span.middle - span.start) (drop span.start stream)

  abbrev rdata : List ℕ
  rdata = take (span.next - span.middle) (drop span.middle stream)

  -- a part that takes the record, or leaves it where it has no rank in the role
  turned : (role : Role) (p q : Option Part) (taken : Bool) → Passed role name stream (part_of p).from (part_of p).until at → Read name key rdata
      → (taken ≡ false → NoRank name key rdata role) → q ≡ grown_to p taken at span.next → Passed role name stream (part_of q).from (part_of q).until span.next
  unfolding grown_to
  turned role p q false h o z e = rw e (passed role name stream (part_of p).from (part_of p).until at h span i o (z refl))
  turned role None q true h o z e = rw e (found_first role name stream 0 0 at h span i o refl)
  turned role (Some p) q true h o z e = rw e (found_more role name stream p.from p.until at h span i o)

  stays : (role : Role) (p : Part) → Passed role name stream p.from p.until at → Read name key rdata → NoRank name key rdata role → Passed role name stream p.from p.until span.next
  stays role p h o z = passed role name stream p.from p.until at h span i o z

  broken_at : step_seen None ≡ step_of name key (record_in key rdata) → judged_lo None ≡ located_in client (decode stream)
  unfolding part onto_records step_seen judged_lo located_from
  broken_at q = sym (g.located_there ∙ rw (i.says, step_none name key _ (sym q)))

  module _ (lo : Lo) (q : step_seen (Some (Step.Location lo)) ≡ step_of name key (record_in key rdata)) where
    located_at : (record_in key rdata ≡ Some (location (drop 2 key) (lo_bytes lo))) × (2 ≤ length key)
    unfolding step_seen
    located_at = is_location_lem name key rdata (lo_bytes lo) (sym q)

    location_at : (next : Located) → best_seen next ≡ better client (best_seen best) (location (drop 2 key) (lo_bytes lo)) → Going client name stream next level control span.next
    unfolding part
    location_at next e =
        let l = located_at.0 in
        let m = met_location name key rdata (drop 2 key) (lo_bytes lo) l in
        record {
          inside = i.inside;
          located_there = (rw (i.says, l) at g.located_there) ∙ (rw (← e) at (step_better client (best_seen best) (drop 2 key) (lo_bytes lo) (decode (drop span.next stream))));
          level_passed = stays Role.Level (part_of level) g.level_passed m.read (m.level refl);
          control_passed = stays Role.Control (part_of control) g.control_passed m.read (m.control refl);
          zone_passed = stays Role.Zone (part_of control) g.zone_passed m.read (m.zone refl);
        }

  module _ (a b : Bool) (q : step_seen (Some (Step.Owned a b)) ≡ step_of name key (record_in key rdata)) where
    is_seen : step_of name key (record_in key rdata) ≡ seen a b
    unfolding step_seen
    is_seen = sym q

    owned_at : (l c : Option Part) → l ≡ grown_to level a at span.next → c ≡ grown_to control b at span.next → Going client name stream best l c span.next
    unfolding part
    owned_at l c x y =
        let m = met name key rdata a b is_seen in
        record {
          inside = i.inside;
          located_there = (rw i.says at g.located_there) ∙ step_same name key client (best_seen best) a b _ (decode (drop span.next stream)) is_seen;
          level_passed = turned Role.Level level l a g.level_passed m.read m.level x;
          control_passed = turned Role.Control control c b g.control_passed m.read m.control y;
          zone_passed = turned Role.Zone control c b g.zone_passed m.read m.zone y;
        }

-- where the pass over plain records stopped
module _ (client name stream : List ℕ) (best : Located) (level control : Option Part) (at : ℕ) (g : Going client name stream best level control at) where
  module _ (stop : Stop) (stopped : IsStop name stream at (Some stop)) where
    reached : Going client name stream best level control stop.at
    reached = moves client name stream best level control at g stop.at stopped.plain

    pub key_ordered : stop.span.start ≤ stop.span.middle
    key_ordered = stopped.span.key_first

    pub key_inside : stop.span.middle ≤ length stream
    key_inside = omega (arith, stopped.span.data_behind, stopped.span.inside)

    pub stop_less : length stream - stop.span.next < length stream - at
    stop_less = omega (arith, stopped.plain.ordered, stopped.span.goes_on, stopped.span.inside)

    is_at : (o : Option Step) → stop.step ≡ o
        → step_seen o ≡ step_of name (take (stop.span.middle - stop.span.start) (drop stop.span.start stream))
        (record_in (take (stop.span.middle - stop.span.start) (drop stop.span.start stream)) (take (stop.span.next - stop.span.middle) (drop stop.span.middle stream)))
    is_at o e = rw (← e) stopped.is

    pub breaks : stop.step ≡ None → judged_lo None ≡ located_in client (decode stream)
    breaks e = broken_at client name stream best level control stop.at reached stop.span stopped.span (is_at None e)

    module _ (step : Step) (e : stop.step ≡ Some step) where
      pub prefix_there : (lo : Lo) → step ≡ Step.Location lo → 2 ≤ length (take (stop.span.middle - stop.span.start) (drop stop.span.start stream))
      prefix_there lo q = (located_at client name stream best level control stop.at reached stop.span stopped.span lo (is_at (Some (Step.Location lo)) (e ∙ ap (λ (x : Step). Some x) q))).1

      pub location_goes : (lo : Lo) → step ≡ Step.Location lo → (next : Located)
          → best_seen next ≡ better client (best_seen best) (location (drop 2 (take (stop.span.middle - stop.span.start) (drop stop.span.start stream))) (lo_bytes lo))
          → Going client name stream next level control stop.span.next
      location_goes lo q next m = location_at client name stream best level control stop.at reached stop.span stopped.span lo (is_at (Some (Step.Location lo)) (e ∙ ap (λ (x : Step). Some x) q)) next m

      pub owned_goes : (a b : Bool) → step ≡ Step.Owned a b → (l c : Option Part) → l ≡ grown_to level a stop.at stop.span.next → c ≡ grown_to control b stop.at stop.span.next
          → Going client name stream best l c stop.span.next
      owned_goes a b q l c x y = owned_at client name stream best level control stop.at reached stop.span stopped.span a b (is_at (Some (Step.Owned a b)) (e ∙ ap (λ (x : Step). Some x) q)) l c x y

  module _ (is : IsStop name stream at None) where
    end : Going client name stream best level control (length stream)
    end = moves client name stream best level control at g (length stream) is

    pub all_located : (level control : Part) → judged_lo (Some (record { here = best.lo; level = level; control = control })) ≡ located_in client (decode stream)
    unfolding judged_lo located_from best_of best_seen
    all_located level control = sym (end.located_there ∙ rw (drop_of_length-le stream {i = length stream} (omega arith), decode_nil))

    pub all_covered : (l c : Part) → l ≡ part_of level → c ≡ part_of control → Covered name stream (Some (record { here = best.lo; level = l; control = c }))
    all_covered l c x y = rw (x, y) (
      covers Role.Level name stream (part_of level).from (part_of level).until (length stream) end.level_passed end.inside (omega arith),
      covers Role.Control name stream (part_of control).from (part_of control).until (length stream) end.control_passed end.inside (omega arith),
      covers Role.Zone name stream (part_of control).from (part_of control).until (length stream) end.zone_passed end.inside (omega arith),
    )

pub ruleset locate_laws = (rules, at_first, key_ordered, key_inside, stop_less, breaks, prefix_there, location_goes, owned_goes, all_located, all_covered)
