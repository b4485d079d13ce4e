-- What the passes find by numbers is the answer of the rules.
use Rattle.std.specs.Prelude.{slice_get}
use mathlib.Core.Path.{◌≡◌, refl, ap, ◌∙◌, sym}
use mathlib.Core.Bool.{Bool, true, false, ◌&&◌}
use mathlib.Core.List.{List, [], ◌∷◌}
use Prim.Native.Nat.{ℕ, ◌+◌, ◌<◌, ◌≤◌, max}
use native.Mathlib.Omega.{arith}
use borrow.Author.Tests.{ne_eqb, eqb-false}
use lib.Dec.{T, eqb, leb, leb→le}
use Rattle.rules.specs.declared.replies.Outcome.{Outcome}
use Rattle.rules.specs.declared.replies.Reply.{Reply}
use Rattle.rules.specs.Lists.{pick, keep}
use Rattle.rules.specs.Names.{is_wire}
use Rattle.rules.specs.Records.{Record, location, resource}
use Rattle.rules.specs.Bytes.{size}
use Rattle.rules.specs.Questions.{Placed, placed_from, visible, ancestors, of_type, is_full, control_of, Result, by_level, in_zone, by_control}
use Rattle.rules.specs.Reading.{reply_of, response_of}
use Rattle.rules.proofs.Tests.{pick_ap}
use Rattle.ranks.specs.Ranks.{rank_of, control_rank, role_rank, largest, seen_rank}
use Rattle.ranks.specs.declared.Role.{Role}
use Rattle.picks.specs.Picks.{wanted, picked_from}
use Rattle.level.proofs.Controls.{ranked, by_rank, by_rank_lem}
use Rattle.reader.specs.Answers.{is_found, said, level_from, zone_from, controlled_from, answered_from}

-- ---- rank and type in one test

module _ (role : Role) (name here : List ℕ) (moment : ℕ) where
  largest_seen : (ps : List Placed) → largest (λ p. role_rank role name p.rec) (keep (λ p. visible here moment p.rec) ps) ≡ largest (λ p. seen_rank role name here moment p.rec) ps
  unfolding largest keep seen_rank
  largest_seen [] = refl
  largest_seen (p ∷ ps) = go (visible here moment p.rec) (largest_seen ps)
    where
      go : (t : Bool) → largest (λ p. role_rank role name p.rec) (keep (λ p. visible here moment p.rec) ps) ≡ largest (λ p. seen_rank role name here moment p.rec) ps
          → largest (λ p. role_rank role name p.rec) (pick t (p ∷ keep (λ p. visible here moment p.rec) ps) (keep (λ p. visible here moment p.rec) ps))
          ≡ max (pick t (role_rank role name p.rec) 0) (largest (λ p. seen_rank role name here moment p.rec) ps)
      go true ih = unfold pick in ap (max (role_rank role name p.rec)) ih
      go false ih = unfold pick in omega (arith, ih)

  module _ (best : ℕ) (z : 0 < best) where
    all_wanted : (type : ℕ) (ps : List Placed)
        → keep (λ p. of_type type p.rec) (ranked (role_rank role name) best (keep (λ p. visible here moment p.rec) ps)) ≡ keep (λ p. wanted type role name here moment best p.rec) ps
    unfolding keep wanted seen_rank pick ranked
    all_wanted type [] = refl
    all_wanted type (p ∷ ps) = go (visible here moment p.rec) (eqb (role_rank role name p.rec) best) refl (all_wanted type ps)
      where
        go : (t u : Bool) → eqb (role_rank role name p.rec) best ≡ u
            → keep (λ p. of_type type p.rec) (keep (λ p. eqb (role_rank role name p.rec) best) (keep (λ p. visible here moment p.rec) ps)) ≡ keep (λ p. wanted type role name here moment best p.rec) ps
            → keep (λ p. of_type type p.rec) (keep (λ p. eqb (role_rank role name p.rec) best) (pick t (p ∷ keep (λ p. visible here moment p.rec) ps) (keep (λ p. visible here moment p.rec) ps)))
            ≡ pick (eqb (pick t (role_rank role name p.rec) 0) best && of_type type p.rec) (p ∷ keep (λ p. wanted type role name here moment best p.rec) ps) (keep (λ p. wanted type role name here moment best p.rec) ps)
        go false u q ih = rw (ne_eqb 0 best (λ e. omega arith)) ih
        go true true q ih = rw (q, ih)
        go true false q ih = rw (q, ih)

    -- every record that is seen is of some type
    any_type : (ps : List Placed) → keep (λ p. of_type 255 p.rec) (ranked (role_rank role name) best (keep (λ p. visible here moment p.rec) ps)) ≡ ranked (role_rank role name) best (keep (λ p. visible here moment p.rec) ps)
    unfolding keep ranked
    any_type [] = refl
    any_type (p ∷ ps) = go p.rec (visible here moment p.rec) refl (any_type ps)
      where
        kept : List Placed
        kept = keep (λ p. visible here moment p.rec) ps

        go : (r : Record) (t : Bool) → visible here moment r ≡ t
            → keep (λ p. of_type 255 p.rec) (keep (λ p. eqb (role_rank role name p.rec) best) kept) ≡ keep (λ p. eqb (role_rank role name p.rec) best) kept
            → keep (λ p. of_type 255 p.rec) (keep (λ p. eqb (role_rank role name p.rec) best) (pick t (record { rec = r; end = p.end } ∷ kept) kept)) ≡ keep (λ p. eqb (role_rank role name p.rec) best) (pick t (record { rec = r; end = p.end } ∷ kept) kept)
        go r false v ih = unfold pick in ih
        go (location prefix lo) true v ih = unfold visible in (let y : ◌≡◌ {A = ℕ} 0 1 = cc in absurd (omega arith))
        go (resource owner type lo ttl time rd) true v ih = unfold pick of_type in by (eqb (role_rank role name (resource owner type lo ttl time rd)) best) ih
          where
            by : (b : Bool) → keep (λ p. of_type 255 p.rec) (keep (λ p. eqb (role_rank role name p.rec) best) kept) ≡ keep (λ p. eqb (role_rank role name p.rec) best) kept
                → keep (λ p. of_type 255 p.rec) (pick b (record { rec = resource owner type lo ttl time rd; end = p.end } ∷ keep (λ p. eqb (role_rank role name p.rec) best) kept) (keep (λ p. eqb (role_rank role name p.rec) best) kept))
                ≡ pick b (record { rec = resource owner type lo ttl time rd; end = p.end } ∷ keep (λ p. eqb (role_rank role name p.rec) best) kept) (keep (λ p. eqb (role_rank role name p.rec) best) kept)
            by true ih = unfold pick of_type in ap {B = List Placed} (λ l. record { rec = resource owner type lo ttl time rd; end = p.end } ∷ l) ih
            by false ih = unfold pick in ih

largest_placed : (f : Record → ℕ) (at : ℕ) (rs : List Record) → largest (λ (p : Placed). f p.rec) (placed_from at rs) ≡ largest f rs
unfolding largest placed_from
largest_placed f at [] = refl
largest_placed f at (r ∷ rs) = rw (largest_placed f (at + size r) rs)

-- ---- lists and their first record

first_found : (moment : ℕ) (ps : List Placed) → is_found (reply_of moment (slice_get ps 0)) ≡ is_full ps
unfolding is_found reply_of is_full
first_found moment [] = refl
first_found moment (p ∷ ps) = refl

-- some record has the largest rank
has_largest : (f : Placed → ℕ) (n : ℕ) (ps : List Placed) → 0 < n → n ≡ largest f ps → T (is_full (keep (λ p. eqb (f p) n) ps))
unfolding largest keep is_full
has_largest f n [] h e = absurd (omega arith)
has_largest f n (p ∷ ps) h e = go (eqb (f p) n) refl (has_largest f n ps h)
  where
    go : (b : Bool) → eqb (f p) n ≡ b → (n ≡ largest f ps → T (is_full (keep (λ p. eqb (f p) n) ps))) → T (is_full (pick b (p ∷ keep (λ p. eqb (f p) n) ps) (keep (λ p. eqb (f p) n) ps)))
    go true q ih = unfold pick in tt
    go false q ih = unfold pick in ih (let d : f p ≡ n → ⊥ = eqb-false (f p) n q in other d)
      where
        other : (f p ≡ n → ⊥) → n ≡ largest f ps
        other d = omega arith

level_said : (moment n : ℕ) (ls ws : List Placed) → T (is_full ls)
    → pick (is_found (reply_of moment (slice_get ws 0))) (said Outcome.Records (reply_of moment (slice_get ws n))) (said Outcome.NoSuchType Reply.NoMore) ≡ response_of moment (by_level ls ws) n
unfolding is_full is_found reply_of response_of by_level said pick
level_said moment n [] ws t = absurd t
level_said moment n (l ∷ ls) [] t = refl
level_said moment n (l ∷ ls) (w ∷ ws) t = refl

-- ---- the answer

module _ (type : ℕ) (name here : List ℕ) (moment ordinal : ℕ) (rs : List Record) where
  abbrev pub seen : List Placed
  seen = keep (λ p. visible here moment p.rec) (placed_from 0 rs)

  rank_is : (role : Role) → largest (λ p. role_rank role name p.rec) seen ≡ largest (seen_rank role name here moment) rs
  rank_is role = largest_seen role name here moment (placed_from 0 rs) ∙ largest_placed (seen_rank role name here moment) 0 rs

  module _ (role : Role) (best : ℕ) (z : 0 < best) (n : ℕ) where
    picked_is : (t : ℕ) → picked_from t role name here moment best 0 n rs ≡ reply_of moment (slice_get (keep (λ p. of_type t p.rec) (ranked (role_rank role name) best seen)) n)
    unfolding picked_from
    picked_is t = rw (all_wanted role name here moment best z t (placed_from 0 rs))

    any_is : picked_from 255 role name here moment best 0 n rs ≡ reply_of moment (slice_get (ranked (role_rank role name) best seen) n)
    any_is = picked_is 255 ∙ ap (λ (l : List Placed). reply_of moment (slice_get l n)) (any_type role name here moment best z (placed_from 0 rs))

  found_any : (role : Role) (best : ℕ) → 0 < best → is_found (picked_from 255 role name here moment best 0 0 rs) ≡ is_full (ranked (role_rank role name) best seen)
  found_any role best z = ap is_found (any_is role best z 0) ∙ first_found moment (ranked (role_rank role name) best seen)

  abbrev best : ℕ
  best = largest (seen_rank Role.Level name here moment) rs

  level_is : 0 < best → level_from type name here moment best ordinal rs ≡ response_of moment (in_zone type (ranked (rank_of name) best seen)) ordinal
  unfolding level_from in_zone role_rank
  level_is z =
      let full : T (is_full (ranked (rank_of name) best seen)) = unfold ranked in has_largest (λ p. rank_of name p.rec) best seen z (sym (rank_is Role.Level)) in
      rw (picked_is Role.Level best z 0 type, picked_is Role.Level best z ordinal type)
      (level_said moment ordinal (ranked (rank_of name) best seen) (keep (λ p. of_type type p.rec) (ranked (rank_of name) best seen)) full)

  abbrev unknown : Result
  unknown = record { outcome = Outcome.NoSuchName; list = [] }

  zone_is : (control : ℕ) → 0 < control
      → zone_from type name here moment control ordinal rs ≡ response_of moment (pick (leb control best) (in_zone type (ranked (rank_of name) best seen)) unknown) ordinal
  unfolding zone_from
  zone_is control z = by (leb control best) refl
    where
      by : (b : Bool) → leb control best ≡ b
          → pick b (level_from type name here moment best ordinal rs) (said Outcome.NoSuchName Reply.NoMore) ≡ response_of moment (pick b (in_zone type (ranked (rank_of name) best seen)) unknown) ordinal
      by true e = unfold pick in (let h : control ≤ best = leb→le control best (rw e tt) in level_is (omega arith))
      by false e = unfold pick said response_of reply_of in refl

  controlled_is : (control : ℕ) → 0 < control
      → controlled_from type name here moment control ordinal rs
      ≡ response_of moment (pick (is_full (ranked (control_rank 6 name) control seen)) (pick (leb control best) (in_zone type (ranked (rank_of name) best seen)) unknown)
      (record { outcome = Outcome.Referral; list = ranked (control_rank 2 name) control seen })) ordinal
  unfolding controlled_from role_rank said response_of
  controlled_is control z =
      rw (found_any Role.Zone control z, zone_is control z, any_is Role.Control control z ordinal) (sym (pick_ap (λ (r : Result). response_of moment r ordinal) (is_full (ranked (control_rank 6 name) control seen)) _ _))

  by_number : answered_from type name here moment ordinal rs ≡ response_of moment (by_rank type name seen) ordinal
  unfolding answered_from by_rank role_rank
  by_number = rw (rank_is Role.Control, rank_is Role.Level) (by (eqb (largest (seen_rank Role.Control name here moment) rs) 0) refl)
    where
      control : ℕ
      control = largest (seen_rank Role.Control name here moment) rs

      by : (b : Bool) → eqb control 0 ≡ b
          → pick b (said Outcome.NotOurs Reply.NoMore) (controlled_from type name here moment control ordinal rs)
          ≡ response_of moment (pick b (record { outcome = Outcome.NotOurs; list = [] }) (pick (is_full (ranked (control_rank 6 name) control seen))
          (pick (leb control best) (in_zone type (ranked (rank_of name) best seen)) unknown) (record { outcome = Outcome.Referral; list = ranked (control_rank 2 name) control seen }))) ordinal
      by true e = unfold pick said response_of reply_of in refl
      by false e = unfold pick in (let z : control ≡ 0 → ⊥ = eqb-false control 0 e in controlled_is control (omega arith))

  pub answer_is : T (is_wire name) → answered_from type name here moment ordinal rs ≡ response_of moment (by_control type name seen (control_of seen (name ∷ ancestors name))) ordinal
  answer_is t = by_number ∙ ap (λ (r : Result). response_of moment r ordinal) (sym (by_rank_lem type name t seen))
