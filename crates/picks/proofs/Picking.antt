-- The pass that picks the record of the answer.
use mathlib.Core.Path.{◌≡◌, refl, ap, ◌∙◌, sym}
use mathlib.Core.Bool.{Bool, true, false, not, ◌||◌, and-false}
use mathlib.Core.List.{List, [], ◌∷◌}
use Rattle.std.specs.Prelude.{Option, Some, None}
use Prim.Native.Nat.{ℕ, zero, suc, ◌+◌, ◌-◌, ◌<◌, ◌≤◌}
use native.Mathlib.Omega.{arith}
use borrow.Author.Rules.{rules}
use borrow.Author.Tests.{eq-eqb, ne_eqb, not-true}
use lib.ListN.{length, take, drop, length-drop, drop_of_length-le}
use lib.Seq.{length-take-le}
use lib.Dec.{eqb}
use Rattle.rules.specs.declared.quantities.Lo.{Lo}
use Rattle.rules.specs.declared.quantities.Shared.{Shared}
use Rattle.rules.specs.declared.quantities.Ttl.{Ttl}
use Rattle.rules.specs.declared.replies.Reply.{Reply}
use Rattle.rules.specs.Lists.{pick, keep, is_some, value_or}
use Rattle.rules.specs.Records.{Record, location, resource, lo_bytes}
use Rattle.rules.specs.Bytes.{size, rdata_of}
use Rattle.rules.specs.Questions.{placed_from, of_type, lifetime_of}
use Rattle.rules.specs.Reading.{record_in, decode, type_of, reply_of}
use Rattle.stream.specs.declared.Span.{Span}
use Rattle.judge.specs.declared.Seen.{Seen}
use Rattle.judge.specs.Seen.{owner_of, seen_record, fixed_in}
use Rattle.stream.specs.Spans.{IsSpan}
use Rattle.stream.proofs.Heads.{decode_nil}
use Rattle.stream.proofs.Joins.{key_there}
use Rattle.view.specs.Views.{sharing}
use Rattle.ranks.specs.Ranks.{ends_in, seen_rank, rank_in}
use Rattle.ranks.specs.declared.Role.{Role}
use Rattle.ranks.proofs.KeyRanks.{unrelated}
use Rattle.ranks.proofs.Related.{not_end}
use Rattle.picks.specs.Picks.{wanted, wanted_in, reply_in, picked_from}
use Rattle.judge.proofs.Shapes.{shaped, size_is}
use Rattle.level.proofs.Bests.{Whole, whole_at, record_whole, rest_whole}

-- ---- one record

module _ (type : ℕ) (role : Role) (name here : List ℕ) (moment best : ℕ) (key rdata : List ℕ) (k : ℕ) (q : k ≡ rank_in role name here moment (record_in key rdata)) where
  pub other_rank : (k ≡ best → ⊥) → false ≡ wanted_in type role name here moment best (record_in key rdata)
  other_rank n = go (record_in key rdata) q
    where
      go : (o : Option Record) → k ≡ rank_in role name here moment o → false ≡ wanted_in type role name here moment best o
      go None p = unfold wanted_in in refl
      go (Some r) p = unfold rank_in wanted_in wanted in rw (ne_eqb (seen_rank role name here moment r) best (λ e. n (p ∙ e)))

  module _ (seen : Seen) (e : seen_record key rdata (Some seen) ≡ record_in key rdata) where
    pub wanted_location : (lo : Lo) → seen ≡ Seen.Location lo → false ≡ wanted_in type role name here moment best (record_in key rdata)
    unfolding wanted_in wanted seen_record of_type
    wanted_location lo b = rw (← e, b, and-false)

    module _ (h : k ≡ best) (w : Bool) (rtype : ℕ) (shared : Shared) (fixed : ℕ) (b : seen ≡ Seen.Resource w rtype shared fixed) where
      typed : wanted_in type role name here moment best (record_in key rdata) ≡ (eqb type 255 || eqb type rtype)
      unfolding wanted_in wanted seen_record of_type rank_in
      typed =
          let r : record_in key rdata ≡ Some (resource (owner_of w key) rtype (lo_bytes shared.lo) shared.ttl.0 shared.time.0 (drop fixed rdata)) = sym e ∙ ap (λ (x : Seen). seen_record key rdata (Some x)) b in
          let s : seen_rank role name here moment (resource (owner_of w key) rtype (lo_bytes shared.lo) shared.ttl.0 shared.time.0 (drop fixed rdata)) ≡ best = sym (q ∙ ap (rank_in role name here moment) r) ∙ h in
          rw (r, eq-eqb _ _ s)

      pub any_type : type ≡ 255 → true ≡ wanted_in type role name here moment best (record_in key rdata)
      any_type t = rw (typed, eq-eqb _ _ t)

      pub this_type : (type ≡ 255 → ⊥) → eqb type rtype ≡ wanted_in type role name here moment best (record_in key rdata)
      this_type t = rw (typed, ne_eqb _ _ t)

pub ruleset wanted_laws = (rules, other_rank, wanted_location, any_type, this_type)

module _ (moment end : ℕ) (key rdata : List ℕ) (seen : Seen) (e : seen_record key rdata (Some seen) ≡ record_in key rdata) where
  pub reply_location : (lo : Lo) → seen ≡ Seen.Location lo → Reply.NoMore ≡ reply_in moment end (record_in key rdata)
  unfolding reply_in seen_record
  reply_location lo b = rw (← e, b)

  pub reply_found : (w : Bool) (type : ℕ) (shared : Shared) (fixed : ℕ) (life : Ttl) → seen ≡ Seen.Resource w type shared fixed
      → life ≡ record { 0 = lifetime_of moment (sharing shared) }
      → Reply.Found type life (end - (length rdata - fixed)) (length rdata - fixed) ≡ reply_in moment end (record_in key rdata)
  unfolding reply_in reply_of seen_record type_of rdata_of sharing
  reply_found w type shared fixed life b l =
      rw (← e, b, l, length-drop fixed rdata, same_life (owner_of w key) type (lo_bytes shared.lo) shared.ttl.0 shared.time.0 (drop fixed rdata))
    where
      same_life : (owner : List ℕ) (type : ℕ) (lo : List ℕ) (ttl time : ℕ) (rd : List ℕ) → lifetime_of moment (resource owner type lo ttl time rd) ≡ lifetime_of moment (resource [] 0 lo ttl time [])
      same_life owner type lo (suc ttl) time rd = unfold lifetime_of in refl
      same_life owner type lo zero zero rd = unfold lifetime_of in refl
      same_life owner type lo zero (suc time) rd = unfold lifetime_of in refl

pub fixed_there : (rdata : List ℕ) (seen : Seen) (w : Bool) (type : ℕ) (shared : Shared) (fixed : ℕ) → fixed_in (Some seen) ≤ length rdata → seen ≡ Seen.Resource w type shared fixed → fixed ≤ length rdata
unfolding fixed_in
fixed_there rdata seen w type shared fixed h b = rw b at h

pub ruleset reply_laws = (rules, reply_location, reply_found, fixed_there)

-- ---- the pass

module _ (type : ℕ) (role : Role) (name here : List ℕ) (moment best at left : ℕ) (r : Record) (rs : List Record) where
  pass_by : wanted type role name here moment best r ≡ false → picked_from type role name here moment best at left (r ∷ rs) ≡ picked_from type role name here moment best (at + size r) left rs
  unfolding picked_from placed_from keep pick
  pass_by w = rw w

  take_it : wanted type role name here moment best r ≡ true → left ≡ 0 → picked_from type role name here moment best at left (r ∷ rs) ≡ reply_of moment (Some (record { rec = r; end = at + size r }))
  unfolding picked_from placed_from keep pick
  take_it w z = rw (w, z)

  count_it : wanted type role name here moment best r ≡ true → (left ≡ 0 → ⊥) → picked_from type role name here moment best at left (r ∷ rs) ≡ picked_from type role name here moment best (at + size r) (left - 1) rs
  unfolding picked_from placed_from keep pick
  count_it w z =
      let q : left ≡ suc (left - 1) = omega arith in
      ap (λ (k : ℕ). picked_from type role name here moment best at k (r ∷ rs)) q ∙ rw w

-- a wanted record is no location
same_reply : (type : ℕ) (role : Role) (name here : List ℕ) (moment best end : ℕ) (r : Record) → wanted type role name here moment best r ≡ true → reply_in moment end (Some r) ≡ reply_of moment (Some (record { rec = r; end = end }))
unfolding wanted of_type reply_in
same_reply type role name here moment best end (location prefix lo) w =
    let z : ◌≡◌ {A = Bool} false true = sym (and-false (eqb (seen_rank role name here moment (location prefix lo)) best)) ∙ w in
    let y : ◌≡◌ {A = ℕ} 0 1 = cc in
    absurd (omega arith)
same_reply type role name here moment best end (resource owner rtype lo ttl time rd) w = refl

module _ (stream : List ℕ) (at : ℕ) (span : Span) (i : IsSpan stream at span) where
  key_long : length (take (span.middle - span.start) (drop span.start stream)) ≡ span.middle - span.start
  key_long = length-take-le _ _ (omega (arith, length-drop span.start stream, i.inside, i.key_first, i.data_behind))

  data_long : length (take (span.next - span.middle) (drop span.middle stream)) ≡ span.next - span.middle
  data_long = length-take-le _ _ (omega (arith, length-drop span.middle stream, i.inside, i.data_behind))

  -- a record ends where the next begins
  pub ends : (r : Record) → record_in (take (span.middle - span.start) (drop span.start stream)) (take (span.next - span.middle) (drop span.middle stream)) ≡ Some r
      → at + size r ≡ span.next
  ends r e =
      let s : size r ≡ 8 + length (take (span.middle - span.start) (drop span.start stream)) + length (take (span.next - span.middle) (drop span.middle stream))
      = size_is _ _ r (shaped _ _ r e) in
      let k : 0 < length (take (span.middle - span.start) (drop span.start stream)) = key_there _ _ r e in
      let h : span.start ≡ at + 8 = i.lengths_first (omega (arith, key_long)) in
      omega (arith, key_long, data_long, i.key_first, i.data_behind)

  pub data_inside : length (take (span.next - span.middle) (drop span.middle stream)) ≤ span.next
  data_inside = omega (arith, data_long)

module _ (type : ℕ) (role : Role) (name here : List ℕ) (moment best : ℕ) (stream : List ℕ) (at left : ℕ) (all : Reply)
    (e : picked_from type role name here moment best at left (value_or [] (decode (drop at stream))) ≡ all) where
  module _ (w : is_some (decode (drop at stream)) ≡ true) (span : Span) (i : IsSpan stream at span) (t : Bool)
      (q : t ≡ wanted_in type role name here moment best (record_in (take (span.middle - span.start) (drop span.start stream)) (take (span.next - span.middle) (drop span.middle stream)))) where
    whole : Whole stream at span
    whole = whole_at stream at span i w

    is_wanted : wanted type role name here moment best whole.rec ≡ t
    unfolding wanted_in
    is_wanted = sym (q ∙ ap (wanted_in type role name here moment best) whole.read)

    left_over : picked_from type role name here moment best at left (whole.rec ∷ value_or [] (decode (drop span.next stream))) ≡ all
    left_over = rw whole.more at e

    pub picked_here : (r : Reply) → t ≡ true → left ≡ 0
        → r ≡ reply_in moment span.next (record_in (take (span.middle - span.start) (drop span.start stream)) (take (span.next - span.middle) (drop span.middle stream))) → r ≡ all
    picked_here r y z p =
        p ∙ ap (reply_in moment span.next) whole.read
        ∙ same_reply type role name here moment best span.next whole.rec (is_wanted ∙ y)
        ∙ ap (λ (n : ℕ). reply_of moment (Some (record { rec = whole.rec; end = n }))) (sym (ends stream at span i whole.rec whole.read))
        ∙ sym (take_it type role name here moment best at left whole.rec _ (is_wanted ∙ y) z)
        ∙ left_over

    pub picked_later : t ≡ true → (left ≡ 0 → ⊥) → picked_from type role name here moment best span.next (left - 1) (value_or [] (decode (drop span.next stream))) ≡ all
    picked_later y z =
        ap (λ (n : ℕ). picked_from type role name here moment best n (left - 1) (value_or [] (decode (drop span.next stream)))) (sym (ends stream at span i whole.rec whole.read))
        ∙ sym (count_it type role name here moment best at left whole.rec _ (is_wanted ∙ y) z)
        ∙ left_over

    pub not_picked : t ≡ false → picked_from type role name here moment best span.next left (value_or [] (decode (drop span.next stream))) ≡ all
    not_picked y =
        ap (λ (n : ℕ). picked_from type role name here moment best n left (value_or [] (decode (drop span.next stream)))) (sym (ends stream at span i whole.rec whole.read))
        ∙ sym (pass_by type role name here moment best at left whole.rec _ (is_wanted ∙ y))
        ∙ left_over

  -- a record whose key isn't the end of the name is of no level
  pub passed_over : 0 < best → (w : is_some (decode (drop at stream)) ≡ true) (span : Span) (i : IsSpan stream at span) (t : Bool)
      → t ≡ ends_in name (take (span.middle - span.start) (drop span.start stream)) → not t ≡ true
      → picked_from type role name here moment best span.next left (value_or [] (decode (drop span.next stream))) ≡ all
  passed_over b w span i t q n =
      not_picked w span i false (other_rank type role name here moment best _ _ 0 (unrelated role name here moment _ _ false (not_end name _ (sym q ∙ not-true t n)) refl) (λ z. omega arith)) refl

  pub none_left : length stream ≤ at → Reply.NoMore ≡ all
  unfolding picked_from placed_from keep value_or reply_of
  none_left h = rw (drop_of_length-le stream h, decode_nil) at e

pub ruleset pick_laws = (rules, record_whole, rest_whole, data_inside, picked_here, picked_later, not_picked, passed_over, none_left)
