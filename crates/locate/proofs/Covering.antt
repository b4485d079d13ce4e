-- The part of a stream that has every record that may answer. Those before it and behind it have no rank, so none is of any level.
use mathlib.Core.Path.{◌≡◌, refl, ap, ◌∙◌, sym}
use mathlib.Core.Bool.{Bool, true, false, not, ◌&&◌, ◌||◌}
use mathlib.Core.List.{List, [], ◌∷◌, ◌++◌}
use Rattle.std.specs.Prelude.{Some}
use Prim.Native.Nat.{ℕ, ◌-◌, ◌≤◌}
use native.Mathlib.Omega.{arith}
use borrow.Author.Tests.{eqb-false, ne_eqb}
use lib.ListN.{length, take, drop}
use lib.Seq.{take_all}
use lib.Dec.{eqb}
use Rattle.rules.specs.Lists.{pick, is_some, value_or}
use Rattle.rules.specs.Records.{Record, location, resource}
use Rattle.rules.specs.Bytes.{wild, size_of_all}
use Rattle.rules.specs.Questions.{visible}
use Rattle.rules.specs.Reading.{record_in, decode}
use Rattle.rules.proofs.Meaning.{sizes_add}
use Rattle.stream.specs.declared.Span.{Span}
use Rattle.stream.specs.Spans.{part, IsSpan}
use Rattle.stream.proofs.Joins.{no_part, parts_join, record_part}
use Rattle.ranks.specs.Ranks.{ends_in, rank_in, largest, seen_rank}
use Rattle.ranks.proofs.KeyRanks.{unrelated, other_name, idle}
use Rattle.ranks.specs.declared.Role.{Role}
use Rattle.ranks.proofs.Related.{not_end}
use Rattle.picks.proofs.Picking.{ends}
use Rattle.locate.specs.Covers.{Covers}
use Rattle.locate.specs.Reaches.{Passed, Plain}
use Rattle.locate.specs.Steps.{may_answer, may_control}
use Rattle.locate.proofs.Unranked.{largest_append, one_more, picked_between}

-- ---- one record: any but one that may answer has no rank for the level, any but one that may make a control name none for that

module _ (name key rdata : List ℕ) where
  -- a record that isn't malformed
  pub record Read : Type 0 where
    pub rec : Record
    pub is : record_in key rdata ≡ Some rec

  -- its rank in a role is 0, for every client and moment
  abbrev pub NoRank : Role → Type 0
  NoRank role = (here : List ℕ) (moment : ℕ) → 0 ≡ rank_in role name here moment (record_in key rdata)

  pub located_rank : (role : Role) (prefix lo : List ℕ) → record_in key rdata ≡ Some (location prefix lo) → NoRank role
  located_rank role prefix lo q here moment = rw q (unfold rank_in seen_rank visible pick in refl)

  module _ (owner lo rd : List ℕ) (type ttl time : ℕ) (q : record_in key rdata ≡ Some (resource owner type lo ttl time rd)) where
    pub unended : (role : Role) → ends_in name key ≡ false → NoRank role
    unended role u here moment = unrelated role name here moment key rdata false (not_end name key u) refl

    pub no_answer : may_answer name key (wild owner) ≡ false → NoRank Role.Level
    no_answer m here moment = by (wild owner) refl (unfold may_answer in m)
      where
        by : (w : Bool) → wild owner ≡ w → (w || eqb (length name) (length key)) ≡ false → 0 ≡ rank_in Role.Level name here moment (record_in key rdata)
        by true v m = let y : ◌≡◌ {A = ℕ} 0 1 = cc in absurd (omega arith)
        by false v m = other_name name here moment key rdata owner lo rd type ttl time q v (eqb-false (length name) (length key) m)

    other_way : (n m : ℕ) → eqb n m ≡ false → eqb m n ≡ false
    other_way n m e = ne_eqb m n (λ z. eqb-false n m e (sym z))

    idle_types : (w : Bool) → (not w && (eqb type 2 || eqb type 6)) ≡ false → ((not w && eqb 2 type) ≡ false) × ((not w && eqb 6 type) ≡ false)
    idle_types true m = (refl, refl)
    idle_types false m = by (eqb type 2) refl m
      where
        by : (a : Bool) → eqb type 2 ≡ a → (a || eqb type 6) ≡ false → (eqb 2 type ≡ false) × (eqb 6 type ≡ false)
        by true e f = let y : ◌≡◌ {A = ℕ} 0 1 = cc in absurd (omega arith)
        by false e f = (other_way type 2 e, other_way type 6 f)

    pub no_control : may_control (wild owner) type ≡ false → NoRank Role.Control × NoRank Role.Zone
    no_control m =
        let two = idle_types (wild owner) (unfold may_control in m) in
        (λ here moment. idle name here moment key rdata Role.Control owner lo rd type ttl time q two.0, λ here moment. idle name here moment key rdata Role.Zone owner lo rd type ttl time q two.1)

-- ---- the pass up to a place

module _ (role : Role) (name stream : List ℕ) where
  pub at_start : Passed role name stream 0 0 0
  unfolding size_of_all largest
  at_start = record {
    before = [];
    between = [];
    behind = [];
    ordered = omega arith;
    reached = omega arith;
    front = no_part stream 0;
    middle = no_part stream 0;
    back = no_part stream 0;
    front_size = refl;
    back_size = refl;
    front_rank = λ here moment. refl;
    back_rank = λ here moment. refl;
  }

  -- records of no rank in any role: what stands behind the part grows by all of them
  pub plain_behind : (from until at : ℕ) → Passed role name stream from until at → (to : ℕ) → Plain name stream at to → Passed role name stream from until to
  plain_behind from until at p to q = record {
    before = p.before;
    between = p.between;
    behind = p.behind ++ q.records;
    ordered = p.ordered;
    reached = omega (arith, p.reached, q.ordered);
    front = p.front;
    middle = p.middle;
    back = parts_join stream until at to _ _ p.reached q.ordered q.inside p.back q.read;
    front_size = p.front_size;
    back_size = omega (arith, sizes_add p.behind q.records, p.back_size, q.size_is);
    front_rank = p.front_rank;
    back_rank = λ here moment. omega (arith, largest_append (seen_rank role name here moment) p.behind q.records, p.back_rank here moment, q.unranked role here moment);
  }

  module _ (from until at : ℕ) (p : Passed role name stream from until at) (span : Span) (i : IsSpan stream at span) where
    abbrev key : List ℕ
    key = take (span.middle - span.start) (drop span.start stream)

    abbrev rdata : List ℕ
    rdata = take (span.next - span.middle) (drop span.middle stream)

    alone : (r : Record) → record_in key rdata ≡ Some r → decode (drop at (take span.next stream)) ≡ Some (r ∷ [])
    alone r e = record_part stream at span i r (unfold part in e)

    -- no rank: what stands behind the part grows
    pub passed : (o : Read name key rdata) → NoRank name key rdata role → Passed role name stream from until span.next
    unfolding size_of_all
    passed o unranked =
        let z : (here : List ℕ) (moment : ℕ) → 0 ≡ seen_rank role name here moment o.rec = λ here moment. unfold rank_in in (unranked here moment ∙ ap (rank_in role name here moment) o.is) in
        record {
          before = p.before;
          between = p.between;
          behind = p.behind ++ (o.rec ∷ []);
          ordered = p.ordered;
          reached = omega (arith, p.reached, i.goes_on);
          front = p.front;
          middle = p.middle;
          back = parts_join stream until at span.next _ _ p.reached (omega (arith, i.goes_on)) i.inside p.back (alone o.rec o.is);
          front_size = p.front_size;
          back_size = omega (arith, sizes_add p.behind (o.rec ∷ []), p.back_size, ends stream at span i o.rec o.is);
          front_rank = p.front_rank;
          back_rank = λ here moment. one_more (seen_rank role name here moment) p.behind o.rec (p.back_rank here moment) (z here moment);
        }

    module _ (found : Read name key rdata) where
      -- the first: the part begins here
      pub found_first : until ≡ 0 → Passed role name stream at span.next span.next
      unfolding size_of_all largest
      found_first z = record {
        before = p.behind;
        between = found.rec ∷ [];
        behind = [];
        ordered = omega (arith, i.goes_on);
        reached = omega arith;
        front = rw z at p.back;
        middle = alone found.rec found.is;
        back = no_part stream span.next;
        front_size = omega (arith, p.back_size);
        back_size = omega arith;
        front_rank = p.back_rank;
        back_rank = λ here moment. refl;
      }

      -- one more: the part ends behind it
      pub found_more : Passed role name stream from span.next span.next
      unfolding size_of_all largest
      found_more = record {
        before = p.before;
        between = (p.between ++ p.behind) ++ (found.rec ∷ []);
        behind = [];
        ordered = omega (arith, p.ordered, p.reached, i.goes_on);
        reached = omega arith;
        front = p.front;
        middle =
            parts_join stream from at span.next _ _ (omega (arith, p.ordered, p.reached)) (omega (arith, i.goes_on)) i.inside
            (parts_join stream from until at _ _ p.ordered p.reached (omega (arith, i.goes_on, i.inside)) p.middle p.back) (alone found.rec found.is);
        back = no_part stream span.next;
        front_size = p.front_size;
        back_size = omega arith;
        front_rank = p.front_rank;
        back_rank = λ here moment. refl;
      }

  -- at the end
  module _ (from until at : ℕ) (p : Passed role name stream from until at) (l : at ≤ length stream) (h : length stream ≤ at) where
    all_read : decode stream ≡ Some (p.before ++ (p.between ++ p.behind))
    all_read =
        rw (take_all at stream h) at
        (parts_join stream 0 from at _ _ (omega arith) (omega (arith, p.ordered, p.reached)) l p.front
        (parts_join stream from until at _ _ p.ordered p.reached l p.middle p.back))

    same_ranks : (f : Record → ℕ) → largest f p.before ≡ 0 → largest f p.behind ≡ 0 → largest f p.between ≡ largest f (p.before ++ (p.between ++ p.behind))
    same_ranks f a b = omega (arith, largest_append f p.before (p.between ++ p.behind), largest_append f p.between p.behind)

    pub covers : Covers role name stream from until
    unfolding is_some value_or
    covers = record {
      ordered = p.ordered;
      inside = omega (arith, p.reached);
      whole = λ w. rw p.middle;
      ranks = λ here moment w. rw (p.middle, all_read) (same_ranks (seen_rank role name here moment) (p.front_rank here moment) (p.back_rank here moment));
      picks = λ type here moment best ordinal w z.
          rw (p.middle, all_read, ← p.front_size) (picked_between type role name here moment best z ordinal p.before p.between p.behind p.front_rank p.back_rank);
    }
