-- The rank of a record is that of its key, and what is not related to the name has none.
use mathlib.Core.Path.{◌≡◌, refl, ap, ◌∙◌, sym}
use mathlib.Core.Bool.{Bool, true, false, not, ◌&&◌, ◌||◌}
use mathlib.Core.List.{List, [], ◌∷◌, map}
use Rattle.std.specs.Prelude.{Option, Some, None}
use Prim.Native.Nat.{ℕ}
use native.Mathlib.Omega.{arith}
use borrow.Author.Rules.{rules}
use borrow.Author.Tests.{not-true, not-false, eq-eqb, ne_eqb}
use lib.ListN.{length, drop}
use lib.Dec.{T, leb, eqb}
use Rattle.rules.specs.declared.quantities.Lo.{Lo}
use Rattle.rules.specs.declared.quantities.Shared.{Shared}
use Rattle.rules.specs.Lists.{pick, all, lower, same_bytes, begins_with}
use Rattle.rules.specs.Records.{Record, location, resource, lo_bytes}
use Rattle.rules.specs.Bytes.{wild}
use Rattle.rules.specs.Questions.{visible, ordinary_of, wildcard_of, ancestors, of_type}
use Rattle.rules.specs.Reading.{lowered, ordinary_key, wildcard_key, record_in}
use Rattle.rules.proofs.Tests.{tests, and_l, and_r}
use Rattle.rules.proofs.Lists.{same_length, OnSome}
use Rattle.rules.proofs.Decoding.{lower_fixed}
use Rattle.judge.specs.declared.Seen.{Seen}
use Rattle.keys.specs.Keys.{good_key}
use Rattle.judge.specs.Seen.{owner_of, seen_record}
use Rattle.view.specs.Views.{sharing}
use Rattle.ranks.specs.Ranks.{rank_among, rank_of, control_among, control_rank, role_rank, among, key_rank, typed_rank, role_key_rank, seen_rank, rank_in}
use Rattle.ranks.specs.declared.Role.{Role}
use Rattle.wire.proofs.Compare.{other_length}
use Rattle.judge.proofs.Shapes.{FromKey, Shape, shape, shaped, is_false, is_resource, good_key_lem, owner_wild}

-- ---- keys

lowered_same : (key : List ℕ) → T (lowered key) → map lower key ≡ key
unfolding lowered all
lowered_same [] t = refl
lowered_same (b ∷ key) t =
    let h : lower b ≡ b = lower_fixed b (and_l (not (leb 65 b && leb b 90)) (lowered key) t) in
    rw (h, lowered_same key (and_r (not (leb 65 b && leb b 90)) (lowered key) t))

module _ (key : List ℕ) (g : T (ordinary_key key)) where
  ordinary_lowered : map lower key ≡ key
  ordinary_lowered = lowered_same key (unfold ordinary_key in search tests)

  ordinary_plain : wild key ≡ false
  ordinary_plain = is_false (wild key) (unfold ordinary_key in search tests)

wildcard_lowered : (key : List ℕ) → T (wildcard_key key) → map lower key ≡ key
unfolding wildcard_key
wildcard_lowered key g = lowered_same key (search tests)

-- ---- rank by key

module _ (type ttl time : ℕ) (lo rd : List ℕ) where
  no_wildcard : (names : List (List ℕ)) (owner : List ℕ) → wild owner ≡ false → rank_among names (resource owner type lo ttl time rd) ≡ 0
  unfolding rank_among wildcard_of pick
  no_wildcard [] owner e = refl
  no_wildcard (a ∷ names) owner e = rw e (no_wildcard names owner e)

  wildcard_among : (names : List (List ℕ)) (key : List ℕ) → map lower key ≡ key → rank_among names (resource (1 ∷ 42 ∷ key) type lo ttl time rd) ≡ pick (among key names) (length key) 0
  unfolding rank_among wildcard_of wild begins_with among pick
  wildcard_among [] key l = refl
  wildcard_among (a ∷ names) key l = rw l (go (same_bytes key a) refl (wildcard_among names key l))
    where
      go : (t : Bool) → same_bytes key a ≡ t → rank_among names (resource (1 ∷ 42 ∷ key) type lo ttl time rd) ≡ pick (among key names) (length key) 0
          → pick t (length a) (rank_among names (resource (1 ∷ 42 ∷ key) type lo ttl time rd)) ≡ pick (t || among key names) (length key) 0
      go true q ih = sym (same_length key a (rw q tt))
      go false q ih = ih

  plain_rank : (name key : List ℕ) → T (ordinary_key key) → rank_of name (resource key type lo ttl time rd) ≡ pick (same_bytes key name) 256 0
  unfolding rank_of ordinary_of
  plain_rank name key g = rw (ordinary_plain key g, ordinary_lowered key g, no_wildcard (ancestors name) key (ordinary_plain key g))

  wild_rank : (name key : List ℕ) → T (wildcard_key key) → rank_of name (resource (1 ∷ 42 ∷ key) type lo ttl time rd) ≡ pick (among key (ancestors name)) (length key) 0
  unfolding rank_of ordinary_of wild begins_with pick
  wild_rank name key g = wildcard_among (ancestors name) key (wildcard_lowered key g)

  level_by_key : (name key owner : List ℕ) (w : Bool) → owner ≡ owner_of w key → T (good_key w key) → rank_of name (resource owner type lo ttl time rd) ≡ key_rank name key w
  unfolding key_rank owner_of good_key pick
  level_by_key name key owner true e g = rw e (wild_rank name key g)
  level_by_key name key owner false e g = rw e (plain_rank name key g)

  -- W8: a wildcard makes no control name; an ordinary record of the type does, if its key is among the names
  no_control : (wanted : ℕ) (names : List (List ℕ)) (owner : List ℕ) → wild owner ≡ true → control_among wanted names (resource owner type lo ttl time rd) ≡ 0
  unfolding control_among ordinary_of pick
  no_control wanted [] owner e = refl
  no_control wanted (a ∷ names) owner e = rw e (no_control wanted names owner e)

  control_among_lem : (wanted : ℕ) (names : List (List ℕ)) (key : List ℕ) → wild key ≡ false → map lower key ≡ key
      → control_among wanted names (resource key type lo ttl time rd) ≡ pick (of_type wanted (resource key type lo ttl time rd)) (pick (among key names) (length key) 0) 0
  unfolding control_among ordinary_of among
  control_among_lem wanted [] key e l = go (of_type wanted (resource key type lo ttl time rd))
    where
      go : (b : Bool) → 0 ≡ pick b (pick false (length key) 0) 0
      go true = unfold pick in refl
      go false = unfold pick in refl
  control_among_lem wanted (a ∷ names) key e l = rw (e, l) (go (same_bytes key a) (of_type wanted (resource key type lo ttl time rd)) refl (control_among_lem wanted names key e l))
    where
      go : (t b : Bool) → same_bytes key a ≡ t → control_among wanted names (resource key type lo ttl time rd) ≡ pick b (pick (among key names) (length key) 0) 0
          → pick (t && b) (length a) (control_among wanted names (resource key type lo ttl time rd)) ≡ pick b (pick (t || among key names) (length key) 0) 0
      go true true q ih = unfold pick in sym (same_length key a (rw q tt))
      go true false q ih = unfold pick in ih
      go false b q ih = unfold pick in ih

  control_by_key : (wanted : ℕ) → of_type wanted (resource [] type lo ttl time rd) ≡ eqb wanted type → (name key owner : List ℕ) (w : Bool) → owner ≡ owner_of w key → T (good_key w key)
      → control_rank wanted name (resource owner type lo ttl time rd) ≡ typed_rank wanted name key w type
  unfolding control_rank typed_rank owner_of good_key among of_type pick
  control_by_key wanted o name key owner true e g = unfold wild begins_with in rw e (no_control wanted (name ∷ ancestors name) (1 ∷ 42 ∷ key) refl)
  control_by_key wanted o name key owner false e g =
      rw (e, ← o) (control_among_lem wanted (name ∷ ancestors name) key (ordinary_plain key g) (ordinary_lowered key g))

  by_key : (role : Role) (name key owner : List ℕ) (w : Bool) → owner ≡ owner_of w key → T (good_key w key) → role_rank role name (resource owner type lo ttl time rd) ≡ role_key_rank role name key w type
  unfolding role_rank role_key_rank of_type
  by_key Role.Level name key owner w e g = level_by_key name key owner w e g
  by_key Role.Control name key owner w e g = control_by_key 2 refl name key owner w e g
  by_key Role.Zone name key owner w e g = control_by_key 6 refl name key owner w e g

-- ---- the code's tests

module _ (name key : List ℕ) (t : Bool) where
  pub wild_is : (w : Bool) → w ≡ true → t ≡ among key (ancestors name) → t ≡ true → length key ≡ key_rank name key w
  unfolding key_rank pick
  wild_is w e q y = rw (e, ← q, y)

  pub wild_not : (w : Bool) → w ≡ true → t ≡ among key (ancestors name) → t ≡ false → 0 ≡ key_rank name key w
  unfolding key_rank pick
  wild_not w e q y = rw (e, ← q, y)

  pub plain_is : (w : Bool) → w ≡ false → t ≡ same_bytes key name → t ≡ true → 256 ≡ key_rank name key w
  unfolding key_rank pick
  plain_is w e q y = rw (e, ← q, y)

  pub plain_not : (w : Bool) → w ≡ false → t ≡ same_bytes key name → t ≡ false → 0 ≡ key_rank name key w
  unfolding key_rank pick
  plain_not w e q y = rw (e, ← q, y)

pub ruleset rank_laws = (rules, wild_is, wild_not, plain_is, plain_not)

-- the same of a key that is the name or an ancestor
pub no_type : (k w : ℕ) (wild : Bool) (type : ℕ) → (w ≡ type → ⊥) → 0 ≡ pick (not wild && eqb w type) k 0
unfolding pick
no_type k w true type h = refl
no_type k w false type h = rw (ne_eqb w type h)

pub no_star : (k w : ℕ) (wild : Bool) (type : ℕ) → wild ≡ true → 0 ≡ pick (not wild && eqb w type) k 0
unfolding pick
no_star k w wild type h = rw h

pub of_type_lem : (k w : ℕ) (wild : Bool) (type : ℕ) → wild ≡ false → w ≡ type → k ≡ pick (not wild && eqb w type) k 0
unfolding pick
of_type_lem k w wild type h e = rw (h, eq-eqb w type e)

pub ruleset typed_laws = (rules, no_type, no_star, of_type_lem)

module _ (name key : List ℕ) (role : Role) (wild : Bool) (type : ℕ) (r : ℕ) where
  pub role_level : role ≡ Role.Level → r ≡ key_rank name key wild → r ≡ role_key_rank role name key wild type
  unfolding role_key_rank
  role_level e h = rw e h

  module _ (a : (same_bytes key name || among key (ancestors name)) ≡ true) where
    pub role_control : role ≡ Role.Control → r ≡ pick (not wild && eqb 2 type) (length key) 0 → r ≡ role_key_rank role name key wild type
    unfolding role_key_rank typed_rank pick
    role_control e h = rw (e, a) h

    pub role_zone : role ≡ Role.Zone → r ≡ pick (not wild && eqb 6 type) (length key) 0 → r ≡ role_key_rank role name key wild type
    unfolding role_key_rank typed_rank pick
    role_zone e h = rw (e, a) h

pub ruleset role_laws = (rules, role_level, role_control, role_zone)

-- ---- one record

module _ (role : Role) (name here : List ℕ) (moment : ℕ) (key rdata : List ℕ) where
  no_rank : (same_bytes key name || among key (ancestors name)) ≡ false → (w : Bool) → key_rank name key w ≡ 0
  no_rank e w = go (same_bytes key name) (among key (ancestors name)) refl refl e w
    where
      go : (s a : Bool) → same_bytes key name ≡ s → among key (ancestors name) ≡ a → (s || a) ≡ false → (w : Bool) → key_rank name key w ≡ 0
      go true a p q e w = let z : ◌≡◌ {A = ℕ} 0 1 = cc in absurd (omega arith)
      go false true p q e w = let z : ◌≡◌ {A = ℕ} 0 1 = cc in absurd (omega arith)
      go false false p q e true = unfold key_rank pick in rw q
      go false false p q e false = unfold key_rank pick in rw p

  no_typed : (same_bytes key name || among key (ancestors name)) ≡ false → (wanted : ℕ) (w : Bool) (type : ℕ) → typed_rank wanted name key w type ≡ 0
  unfolding typed_rank
  no_typed e wanted w type = rw e (go (not w && eqb wanted type))
    where
      go : (b : Bool) → pick b (pick false (length key) 0) 0 ≡ 0
      go true = unfold pick in refl
      go false = unfold pick in refl

  no_role : (same_bytes key name || among key (ancestors name)) ≡ false → (w : Bool) (type : ℕ) → (role : Role) → role_key_rank role name key w type ≡ 0
  unfolding role_key_rank
  no_role e w type Role.Level = no_rank e w
  no_role e w type Role.Control = no_typed e 2 w type
  no_role e w type Role.Zone = no_typed e 6 w type

  pick_same : (b : Bool) (n : ℕ) → pick b n n ≡ n
  unfolding pick
  pick_same true n = refl
  pick_same false n = refl

  pub unrelated : (t : Bool) → t ≡ (same_bytes key name || among key (ancestors name)) → not t ≡ true → 0 ≡ rank_in role name here moment (record_in key rdata)
  unfolding rank_in seen_rank
  unrelated t q n = go (record_in key rdata) (shape key rdata)
    where
      go : (o : Option Record) → OnSome (Shape key rdata) o → 0 ≡ rank_in role name here moment o
      go None s = refl
      go (Some (location prefix lo)) s = unfold visible pick in refl
      go (Some (resource owner type lo ttl time rd)) s =
          rw (by_key type ttl time lo rd role name key owner s.w s.owned s.good, no_role (sym q ∙ not-true t n) s.w type role) (sym (pick_same (visible here moment (resource owner type lo ttl time rd)) 0))

  module _ (seen : Seen) (e : seen_record key rdata (Some seen) ≡ record_in key rdata) where
    pub a_location : (lo : Lo) → seen ≡ Seen.Location lo → 0 ≡ rank_in role name here moment (record_in key rdata)
    unfolding rank_in seen_record seen_rank visible pick
    a_location lo q = rw (← e, q)

    module _ (w : Bool) (type : ℕ) (shared : Shared) (fixed : ℕ) (q : seen ≡ Seen.Resource w type shared fixed) where
      ranked : rank_in role name here moment (record_in key rdata) ≡ pick (visible here moment (sharing shared)) (role_key_rank role name key w type) 0
      unfolding rank_in seen_rank visible sharing
      ranked =
          rw (
            is_resource key rdata (Some seen) e w type shared fixed (ap (λ (x : Seen). Some x) q),
            by_key type shared.ttl.0 shared.time.0 (lo_bytes shared.lo) (drop fixed rdata) role name key (owner_of w key) w refl (good_key_lem key rdata (Some seen) e w type shared fixed (ap (λ (x : Seen). Some x) q)),
          )

      module _ (t : Bool) (v : t ≡ visible here moment (sharing shared)) where
        pub unseen : not t ≡ true → 0 ≡ rank_in role name here moment (record_in key rdata)
        unfolding pick
        unseen n = rw (ranked, ← v, not-true t n)

        pub seen_one : (r : ℕ) → not t ≡ false → r ≡ role_key_rank role name key w type → r ≡ rank_in role name here moment (record_in key rdata)
        unfolding pick
        seen_one r n k = rw (ranked, ← v, not-false t n, k)

-- what role_rank asks
pub is_there : (t x : Bool) → t ≡ x → not t ≡ false → x ≡ true
is_there t x e n = sym e ∙ not-false t n

pub ruleset rank_in_laws = (rules, unrelated, a_location, unseen, seen_one, is_there)

module _ (name here : List ℕ) (moment : ℕ) (key rdata : List ℕ) where
  same_picked : (b : Bool) (n : ℕ) → pick b n n ≡ n
  unfolding pick
  same_picked true n = refl
  same_picked false n = refl

  -- an ordinary record of another name
  pub other_name : (owner lo rd : List ℕ) (type ttl time : ℕ) → record_in key rdata ≡ Some (resource owner type lo ttl time rd) → wild owner ≡ false → (length name ≡ length key → ⊥)
      → 0 ≡ rank_in Role.Level name here moment (record_in key rdata)
  unfolding rank_in seen_rank role_key_rank
  other_name owner lo rd type ttl time e o n = rw e (go s.w s.owned s.good)
    where
      s : FromKey key rdata owner lo rd
      s = shaped key rdata (resource owner type lo ttl time rd) e

      go : (w : Bool) → owner ≡ owner_of w key → T (good_key w key) → 0 ≡ pick (visible here moment (resource owner type lo ttl time rd)) (role_rank Role.Level name (resource owner type lo ttl time rd)) 0
      go true p g =
          let z : ◌≡◌ {A = Bool} true false = sym (owner_wild true key g) ∙ ap wild (sym p) ∙ o in
          let y : ◌≡◌ {A = ℕ} 0 1 = cc in
          absurd (omega arith)
      go false p g =
          rw (by_key type ttl time lo rd Role.Level name key owner false p g, ← (plain_not name key false false refl (other_length key name (λ z. n (sym z))) refl))
          (sym (same_picked (visible here moment (resource owner type lo ttl time rd)) 0))

  -- a wildcard, or a record of another type, makes no control name and no zone
  abbrev pub Idle : Role → Bool → ℕ → Type 0
  Idle Role.Level w type = ⊥
  Idle Role.Control w type = (not w && eqb 2 type) ≡ false
  Idle Role.Zone w type = (not w && eqb 6 type) ≡ false

  idle_rank : (role : Role) (w : Bool) (type : ℕ) → Idle role w type → role_key_rank role name key w type ≡ 0
  unfolding role_key_rank typed_rank pick
  idle_rank Role.Level w type o = absurd o
  idle_rank Role.Control w type o = rw o
  idle_rank Role.Zone w type o = rw o

  pub idle : (role : Role) (owner lo rd : List ℕ) (type ttl time : ℕ) → record_in key rdata ≡ Some (resource owner type lo ttl time rd) → Idle role (wild owner) type
      → 0 ≡ rank_in role name here moment (record_in key rdata)
  unfolding rank_in seen_rank
  idle role owner lo rd type ttl time e o =
      let s : FromKey key rdata owner lo rd = shaped key rdata (resource owner type lo ttl time rd) e in
      let w : wild owner ≡ s.w = ap wild s.owned ∙ owner_wild s.w key s.good in
      rw (e, by_key type ttl time lo rd role name key owner s.w s.owned s.good, idle_rank role s.w type (rw w at o)) (sym (same_picked (visible here moment (resource owner type lo ttl time rd)) 0))
