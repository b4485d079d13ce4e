-- An outcome and its list fit together.
use mathlib.Core.Path.{◌≡◌, refl, ap, ◌∙◌}
use Prim.Native.Nat.{ℕ, zero, suc, ◌<◌, ◌≤◌}
use native.Mathlib.Omega.{arith}
use mathlib.Core.Bool.{Bool, true, false, ◌&&◌}
use mathlib.Core.List.{List, [], ◌∷◌, ◌++◌, map}
use Rattle.std.specs.Prelude.{Option, Some, None}
use borrow.Author.Tests.{le-leb, lt-leb, leb-false}
use lib.Dec.{T, leb}
use lib.ListN.{length}
use Rattle.rules.specs.declared.replies.Outcome.{Outcome}
use Rattle.rules.specs.Lists.{pick, keep, all}
use Rattle.rules.specs.Questions.{Placed, ordinary_of, wildcard_of, ancestors_from, ancestors, ancestors_to, first_full, level, of_type, ordinary_of_type, is_full, control_of, Result, by_level, in_zone, by_control, answers}
use Rattle.rules.specs.Outcomes.{visible_to, control_name, NamesWithoutControlAreNotOurs, DelegationsRefer, has_records, OutcomesFitLists, ReferralsAreNameServers, list_of01, RecordsAreThoseOf01, TheClimbEndsAtControl, TheControlNameClimbsNowhere}
use Rattle.rules.proofs.Tests.{is_true, pick_ok}
use Rattle.rules.proofs.Lists.{OnSome}

-- ---- by the control name

pub names_without_control_are_not_ours : NamesWithoutControlAreNotOurs
unfolding NamesWithoutControlAreNotOurs answers control_name visible_to by_control
names_without_control_are_not_ours q ps e = rw e

no_soa : (type : ℕ) (name : List ℕ) (ps : List Placed) (c : List ℕ) → ordinary_of_type 6 c ps ≡ [] → by_control type name ps (Some c) ≡ record { outcome = Outcome.Referral; list = ordinary_of_type 2 c ps }
unfolding by_control is_full pick
no_soa type name ps c e = rw e

pub delegations_refer : DelegationsRefer
unfolding DelegationsRefer answers control_name visible_to
delegations_refer q ps control e f = rw e (no_soa _ _ _ control f)

-- ---- a list has records exactly with a referral and with records

abbrev Fits : Result → Type 0
Fits r = is_full r.list ≡ has_records r.outcome

level_fits : (ps ws : List Placed) → Fits (by_level ps ws)
unfolding by_level is_full
level_fits [] ws = refl
level_fits (p ∷ ps) [] = refl
level_fits (p ∷ ps) (w ∷ ws) = refl

-- a control name has NS records
control_has : (ps : List Placed) (ns : List (List ℕ)) → OnSome (λ c. T (is_full (ordinary_of_type 2 c ps))) (control_of ps ns)
unfolding control_of
control_has ps [] = tt
control_has ps (n ∷ ns) =
    let higher = control_has ps ns in
    pick_ok (OnSome (λ c. T (is_full (ordinary_of_type 2 c ps)))) _ (λ t. t) (λ t. higher)

control_fits : (type : ℕ) (name : List ℕ) (ps : List Placed) (o : Option (List ℕ)) → OnSome (λ c. T (is_full (ordinary_of_type 2 c ps))) o → Fits (by_control type name ps o)
unfolding by_control in_zone
control_fits type name ps None h = unfold is_full in refl
control_fits type name ps (Some c) h = pick_ok Fits _ (λ t. level_fits (level c name ps) _) (λ t. is_true (is_full (ordinary_of_type 2 c ps)) h)

pub outcomes_fit : OutcomesFitLists
unfolding OutcomesFitLists answers
outcomes_fit q ps = control_fits _ _ _ _ (control_has _ _)

-- ---- a referral's records

all_kept : (t : Placed → Bool) (ps : List Placed) → T (all t (keep t ps))
unfolding all keep
all_kept t [] = tt
all_kept t (p ∷ ps) = go (t p) refl (all_kept t ps)
  where
    go : (b : Bool) → t p ≡ b → T (all t (keep t ps)) → T (all t (pick b (p ∷ keep t ps) (keep t ps)))
    go true e h = unfold pick all in rw e h
    go false e h = unfold pick in h

not_referral : (ps ws : List Placed) → (by_level ps ws).outcome ≡ Outcome.Referral → ⊥
unfolding by_level
not_referral [] ws e = let z : ◌≡◌ {A = ℕ} 0 1 = cc in omega arith
not_referral (p ∷ ps) [] e = let z : ◌≡◌ {A = ℕ} 0 1 = cc in omega arith
not_referral (p ∷ ps) (w ∷ ws) e = let z : ◌≡◌ {A = ℕ} 0 1 = cc in omega arith

-- the control name of a referral, and that its list is of such records
record Refer (type : ℕ) (name : List ℕ) (ps : List Placed) (o : Option (List ℕ)) : Type 0 where
  control : List ℕ
  is : o ≡ Some control
  servers : T (all (λ p. ordinary_of control p.rec && of_type 2 p.rec) (by_control type name ps o).list)

refers : (type : ℕ) (name : List ℕ) (ps : List Placed) (o : Option (List ℕ)) → (by_control type name ps o).outcome ≡ Outcome.Referral → Refer type name ps o
unfolding by_control in_zone
refers type name ps None e = let z : ◌≡◌ {A = ℕ} 0 1 = cc in absurd (omega arith)
refers type name ps (Some c) e = record { control = c; is = refl; servers = go (is_full (ordinary_of_type 6 c ps)) e }
  where
    go : (b : Bool) → (pick b (in_zone type (level c name ps)) (record { outcome = Outcome.Referral; list = ordinary_of_type 2 c ps })).outcome ≡ Outcome.Referral
        → T (all (λ p. ordinary_of c p.rec && of_type 2 p.rec) (pick b (in_zone type (level c name ps)) (record { outcome = Outcome.Referral; list = ordinary_of_type 2 c ps })).list)
    go true e = unfold pick in absurd (not_referral (level c name ps) _ e)
    go false e = unfold pick ordinary_of_type in all_kept (λ p. ordinary_of c p.rec && of_type 2 p.rec) ps

pub referrals_are_name_servers : ReferralsAreNameServers
unfolding ReferralsAreNameServers answers control_name visible_to
referrals_are_name_servers q ps e =
    let r = refers _ _ _ _ e in
    (r.control, record { controls = r.is; servers = r.servers })

-- ---- ancestors get shorter

abbrev Shrinking : ℕ → List (List ℕ) → Type 0
Shrinking n [] = Unit {0}
Shrinking n (a ∷ names) = (length a < n) × Shrinking (length a) names

shrinks : (k : ℕ) (name : List ℕ) (n : ℕ) → length name ≤ n → Shrinking n (ancestors_from k name)
unfolding ancestors_from
shrinks zero [] n h = tt
shrinks zero (zero ∷ name) n h = tt
shrinks zero (suc k ∷ name) n h = shrinks (suc k) name n (omega arith)
shrinks (suc k) [] n h = tt
shrinks (suc zero) (b ∷ name) n h = (omega arith, shrinks zero name (length name) (omega arith))
shrinks (suc (suc k)) (b ∷ name) n h = shrinks (suc k) name n (omega arith)

abbrev up_to : ℕ → List (List ℕ) → List (List ℕ)
up_to c names = keep (λ a. leb c (length a)) names

-- none that are shorter
none_up : (c n : ℕ) (names : List (List ℕ)) → n ≤ c → Shrinking n names → up_to c names ≡ []
unfolding keep pick
none_up c n [] h s = refl
none_up c n (a ∷ names) h s = rw (lt-leb c (length a) (omega (arith, s.0)), none_up c (length a) names (omega (arith, s.0)) s.1)

-- ---- with outcome 3 the list is 01's

-- one level in front
full_same : (p : Placed) (ps l : List Placed) (upper all : List (List Placed)) → (first_full upper ≡ p ∷ ps → first_full all ≡ p ∷ ps)
    → first_full (l ∷ upper) ≡ p ∷ ps → first_full (l ∷ all) ≡ p ∷ ps
unfolding first_full
full_same p ps [] upper all f e = f e
full_same p ps (x ∷ l) upper all f e = e

no_first : (p : Placed) (ps : List Placed) → first_full [] ≡ p ∷ ps → ⊥
unfolding first_full
no_first p ps e = let z : ◌≡◌ {A = ℕ} 0 1 = cc in omega arith

first_same : (w : List ℕ → List Placed) (c n : ℕ) (names : List (List ℕ)) → Shrinking n names → (p : Placed) (ps : List Placed)
    → first_full (map w (up_to c names)) ≡ p ∷ ps → first_full (map w names) ≡ p ∷ ps
unfolding keep
first_same w c n [] s p ps e = e
first_same w c n (a ∷ names) s p ps e = go (leb c (length a)) refl e (first_same w c (length a) names s.1 p ps)
  where
    go : (b : Bool) → leb c (length a) ≡ b → first_full (map w (pick b (a ∷ up_to c names) (up_to c names))) ≡ p ∷ ps
        → (first_full (map w (up_to c names)) ≡ p ∷ ps → first_full (map w names) ≡ p ∷ ps) → first_full (w a ∷ map w names) ≡ p ∷ ps
    go true q e f = full_same p ps (w a) (map w (up_to c names)) (map w names) f (unfold pick in e)
    go false q e f =
        let None : up_to c names ≡ [] = none_up c (length a) names (omega (arith, leb-false c (length a) q)) s.1 in
        let k : first_full (map w (up_to c names)) ≡ p ∷ ps = unfold pick in e in
        absurd (no_first p ps (rw None at k))

module _ (type : ℕ) (name : List ℕ) (ps : List Placed) where
  abbrev whole : List Placed
  whole = first_full (keep (λ p. ordinary_of name p.rec) ps ∷ map (λ a. keep (λ p. wildcard_of a p.rec) ps) (ancestors name))

  level_same : (c : List ℕ) (p : Placed) (qs : List Placed) → level c name ps ≡ p ∷ qs → whole ≡ p ∷ qs
  unfolding level ancestors_to ancestors
  level_same c p qs e =
      full_same p qs _ _ _ (first_same (λ a. keep (λ p. wildcard_of a p.rec) ps) (length c) (length name) (ancestors_from 0 name) (shrinks 0 name (length name) (omega arith)) p qs) e

  zone_01 : (ls : List Placed) → ((p : Placed) (qs : List Placed) → ls ≡ p ∷ qs → whole ≡ p ∷ qs) → (in_zone type ls).outcome ≡ Outcome.Records
      → (in_zone type ls).list ≡ keep (λ p. of_type type p.rec) whole
  unfolding in_zone by_level
  zone_01 [] f e = let z : ◌≡◌ {A = ℕ} 0 1 = cc in absurd (omega arith)
  zone_01 (p ∷ qs) f e = rw (f p qs refl) (go (keep (λ p. of_type type p.rec) (p ∷ qs)) e)
    where
      go : (ws : List Placed) → (by_level (p ∷ qs) ws).outcome ≡ Outcome.Records → (by_level (p ∷ qs) ws).list ≡ ws
      go [] e = let z : ◌≡◌ {A = ℕ} 0 1 = cc in absurd (omega arith)
      go (w ∷ ws) e = refl

  control_01 : (o : Option (List ℕ)) → (by_control type name ps o).outcome ≡ Outcome.Records → (by_control type name ps o).list ≡ keep (λ p. of_type type p.rec) whole
  unfolding by_control
  control_01 None e = let z : ◌≡◌ {A = ℕ} 0 1 = cc in absurd (omega arith)
  control_01 (Some c) e = go (is_full (ordinary_of_type 6 c ps)) e
    where
      go : (b : Bool) → (pick b (in_zone type (level c name ps)) (record { outcome = Outcome.Referral; list = ordinary_of_type 2 c ps })).outcome ≡ Outcome.Records
          → (pick b (in_zone type (level c name ps)) (record { outcome = Outcome.Referral; list = ordinary_of_type 2 c ps })).list ≡ keep (λ p. of_type type p.rec) whole
      go true e = unfold pick in zone_01 (level c name ps) (level_same c) e
      go false e = unfold pick in let z : ◌≡◌ {A = ℕ} 0 1 = cc in absurd (omega arith)

pub records_are_those_of_01 : RecordsAreThoseOf01
unfolding RecordsAreThoseOf01 answers list_of01 visible_to
records_are_those_of_01 q ps e = control_01 _ _ _ _ e

-- ---- the climb

-- what stands behind is shorter
shorter : (n : ℕ) (control : List ℕ) (below above : List (List ℕ)) → Shrinking n (below ++ (control ∷ above)) → length control < n
shorter n control [] above s = s.0
shorter n control (b ∷ below) above s = omega (arith, s.0, shorter (length b) control below above s.1)

up_to_it : (n : ℕ) (control : List ℕ) (below above : List (List ℕ)) → Shrinking n (below ++ (control ∷ above))
    → up_to (length control) (below ++ (control ∷ above)) ≡ below ++ (control ∷ [])
unfolding keep pick
up_to_it n control [] above s = rw (le-leb (length control) (length control) (omega arith), none_up (length control) (length control) above (omega arith) s.1)
up_to_it n control (b ∷ below) above s =
    rw (le-leb (length control) (length b) (omega (arith, shorter (length b) control below above s.1)), up_to_it (length b) control below above s.1)

pub the_climb_ends_at_control : TheClimbEndsAtControl
unfolding TheClimbEndsAtControl ancestors_to ancestors
the_climb_ends_at_control name control below above e =
    ap (up_to (length control)) e ∙ up_to_it (length name) control below above (rw e at (shrinks 0 name (length name) (omega arith)))

pub the_control_name_climbs_nowhere : TheControlNameClimbsNowhere
unfolding TheControlNameClimbsNowhere ancestors_to ancestors
the_control_name_climbs_nowhere name = none_up (length name) (length name) (ancestors_from 0 name) (omega arith) (shrinks 0 name (length name) (omega arith))
