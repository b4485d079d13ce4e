-- W8 by numbers: the control name is the longest of the names that have a visible ordinary NS record, and a name that a key can be is told by its
-- length.
use mathlib.Core.Path.{◌≡◌, refl, sym, ap, ◌∙◌, subst}
use Prim.Native.Nat.{ℕ, suc, ◌<◌, ◌≤◌}
use native.Mathlib.Omega.{arith}
use mathlib.Core.Bool.{Bool, true, false, not, ◌&&◌}
use mathlib.Core.List.{List, [], ◌∷◌, map}
use Rattle.std.specs.Prelude.{Option, Some, None}
use borrow.Author.Tests.{eq-eqb, ne_eqb}
use lib.ListN.{length}
use lib.Dec.{T, not_T, eqb, leb, leb→le}
use Rattle.rules.specs.declared.replies.Outcome.{Outcome}
use Rattle.rules.specs.Lists.{pick, keep, lower, same_bytes}
use Rattle.rules.specs.Names.{is_wire}
use Rattle.rules.specs.Records.{Record, location, resource}
use Rattle.rules.specs.Bytes.{wild}
use Rattle.rules.specs.Questions.{Placed, ordinary_of, ancestors, level, of_type, ordinary_of_type, is_full, control_of, Result, by_level, in_zone, by_control}
use Rattle.rules.proofs.Tests.{pick_ok, and_l, and_r}
use Rattle.rules.proofs.Lists.{same_length}
use Rattle.rules.proofs.Names.{labels_of, short_of}
use Rattle.ranks.specs.Ranks.{rank_of, control_among, control_rank, role_rank, largest, chosen}
use Rattle.ranks.specs.declared.Role.{Role}
use Rattle.level.proofs.Levels.{most_rank, Descending, descending, not_empty, most, some_kept, none_kept, level_is}

-- ---- outcome and list by numbers

-- those of a number
unfoldable pub ranked : (Record → ℕ) → ℕ → List Placed → List Placed
ranked f n ps = keep (λ p. eqb (f p.rec) n) ps

-- outcome and list by two numbers: the control name's length, and the largest rank
unfoldable pub by_rank : ℕ → List ℕ → List Placed → Result
by_rank type name ps =
    let control = largest (λ p. control_rank 2 name p.rec) ps in
    let best = largest (λ p. rank_of name p.rec) ps in
    let zone = pick (leb control best) (in_zone type (ranked (rank_of name) best ps)) (record { outcome = Outcome.NoSuchName; list = [] }) in
    let referral : Result = record { outcome = Outcome.Referral; list = ranked (control_rank 2 name) control ps } in
    pick (eqb control 0) (record { outcome = Outcome.NotOurs; list = [] }) (pick (is_full (ranked (control_rank 6 name) control ps)) zone referral)

-- ---- the laws

data In (c : List ℕ) : List (List ℕ) → Type 0 where
  here : {names : List (List ℕ)} → In c (c ∷ names)
  there : {a : List ℕ} {names : List (List ℕ)} → In c names → In c (a ∷ names)

in_below : {c : List ℕ} (n : ℕ) {names : List (List ℕ)} → Descending n names → In c names → (length c < n) × (0 < length c)
in_below n d here = (d.0, d.1)
in_below n d (there {a = a} i) = let two = in_below (length a) d.2 i in (omega (arith, d.0), two.1)

control_below : (type n : ℕ) (names : List (List ℕ)) → 0 < n → Descending n names → (r : Record) → control_among type names r < n
unfolding control_among
control_below type n [] p d r = p
control_below type n (a ∷ names) p d r =
    let k = control_below type (length a) names d.1 d.2 r in
    pick_ok (λ m. m < n) _ (λ t. d.0) (λ t. omega (arith, d.0))

-- a control name, and its length
data Controlled (names : List (List ℕ)) : Option (List ℕ) → ℕ → Type 0 where
  nobody : {m : ℕ} → m ≡ 0 → Controlled names None m
  ruled : {m : ℕ} (c : List ℕ) → In c names → m ≡ length c → Controlled names (Some c) m

zeros : (ps : List Placed) → largest (λ (p : Placed). 0) ps ≡ 0
unfolding largest
zeros [] = refl
zeros (p ∷ ps) = omega (arith, zeros ps)

further : {a : List ℕ} {names : List (List ℕ)} {o : Option (List ℕ)} {m n : ℕ} → n ≡ m → Controlled names o m → Controlled (a ∷ names) o n
further e (nobody z) = nobody (e ∙ z)
further e (ruled c i l) = ruled c (there i) (e ∙ l)

control_is : (ps : List Placed) (n : ℕ) (names : List (List ℕ)) → Descending n names → Controlled names (control_of ps names) (largest (λ p. control_among 2 names p.rec) ps)
unfolding control_of control_among ordinary_of_type
control_is ps n [] d = nobody (zeros ps)
control_is ps n (a ∷ names) d = by (keep t ps) refl (control_is ps (length a) names d.2)
  where
    t : Placed → Bool
    t p = ordinary_of a p.rec && of_type 2 p.rec

    f : Placed → ℕ
    f p = control_among 2 names p.rec

    small : (p : Placed) → f p < length a
    small p = control_below 2 (length a) names d.1 d.2 p.rec

    by : (ks : List Placed) → keep t ps ≡ ks → Controlled names (control_of ps names) (largest f ps)
        → Controlled (a ∷ names) (pick (is_full (keep t ps)) (Some a) (control_of ps names)) (largest (λ p. pick (t p) (length a) (f p)) ps)
    by [] k ih = unfold pick is_full in rw k (further (none_kept t (length a) f small ps k).0 ih)
    by (q ∷ qs) k ih = unfold pick is_full in
        let is : largest (λ p. pick (t p) (length a) (f p)) ps ≡ length a = omega (arith, most t (length a) f small ps, some_kept t (length a) f small ps q qs k) in
        rw k (ruled a here is)

no_and : (a b : Bool) → T (not a) → T (not (a && b))
no_and true b t = absurd t
no_and false b t = tt

both_no : (a b : Bool) → T (not a) → T (not b) → a ≡ b
both_no true b t u = absurd t
both_no false true t u = absurd u
both_no false false t u = refl

not_both : (a c : List ℕ) (r : Record) → (length a ≡ length c → ⊥) → T (ordinary_of a r) → T (not (ordinary_of c r))
unfolding ordinary_of
not_both a c (location p lo) h t = tt
not_both a c (resource o ty lo ttl time rd) h t =
    not_T (not (wild o) && same_bytes (map lower o) c)
    (λ u. h (sym (same_length (map lower o) a (and_r (not (wild o)) _ t)) ∙ same_length (map lower o) c (and_r (not (wild o)) _ u)))

first_told : (b : Bool) (w n : ℕ) → n < w → b ≡ eqb (pick b w n) w
unfolding pick
first_told true w n h = sym (eq-eqb w w refl)
first_told false w n h = sym (ne_eqb n w (λ e. omega arith))

-- the ordinary records of a name and a type are those of its length
typed_at : {c : List ℕ} (type n : ℕ) {names : List (List ℕ)} → Descending n names → In c names → (r : Record) → (ordinary_of c r && of_type type r) ≡ eqb (control_among type names r) (length c)
unfolding control_among
typed_at {c} type n d (here {names = names}) r = first_told (ordinary_of c r && of_type type r) (length c) (control_among type names r) (control_below type (length c) names d.1 d.2 r)
typed_at {c} type n d (there {a = a} {names = names} i) r = by (ordinary_of a r && of_type type r) refl (typed_at type (length a) d.2 i r)
  where
    by : (b : Bool) → (ordinary_of a r && of_type type r) ≡ b → (ordinary_of c r && of_type type r) ≡ eqb (control_among type names r) (length c)
        → (ordinary_of c r && of_type type r) ≡ eqb (pick b (length a) (control_among type names r)) (length c)
    by true e ih = unfold pick in
        let less : length c < length a = (in_below (length a) d.2 i).0 in
        let ord : T (ordinary_of a r) = and_l (ordinary_of a r) (of_type type r) (rw e tt) in
        both_no _ _ (no_and (ordinary_of c r) (of_type type r) (not_both a c r (λ z. omega arith) ord)) (subst (λ (b : Bool). T (not b)) (sym (ne_eqb (length a) (length c) (λ z. omega arith))) tt)
    by false e ih = unfold pick in ih

list_at : (type n : ℕ) {c : List ℕ} {names : List (List ℕ)} → Descending n names → In c names → (ps : List Placed) → ordinary_of_type type c ps ≡ keep (λ p. eqb (control_among type names p.rec) (length c)) ps
unfolding ordinary_of_type keep
list_at type n d i [] = refl
list_at type n d i (p ∷ ps) = rw (typed_at type n d i p.rec, list_at type n d i ps)

-- ---- together

chosen_is : (name : List ℕ) (ps : List Placed) → 0 < largest (λ p. rank_of name p.rec) ps → chosen (λ p. rank_of name p.rec) ps ≡ ranked (rank_of name) (largest (λ p. rank_of name p.rec) ps) ps
unfolding chosen ranked pick
chosen_is name ps h = rw (ne_eqb (largest (λ p. rank_of name p.rec) ps) 0 (λ z. omega arith))

module _ (type : ℕ) (name : List ℕ) (t : T (is_wire name)) (ps : List Placed) where
  names_descend : Descending (suc (length name)) (name ∷ ancestors name)
  unfolding ancestors
  names_descend = (omega arith, not_empty name (labels_of name t), descending 0 name (labels_of name t))

  zone_is : (c : List ℕ) → 0 < length c → length c ≤ 256
      → in_zone type (level c name ps)
      ≡ pick (leb (length c) (largest (λ p. rank_of name p.rec) ps)) (in_zone type (ranked (rank_of name) (largest (λ p. rank_of name p.rec) ps) ps)) (record { outcome = Outcome.NoSuchName; list = [] })
  zone_is c h k = ap (in_zone type) (level_is c name t h k ps) ∙ by (leb (length c) (largest (λ p. rank_of name p.rec) ps)) refl
    where
      by : (b : Bool) → leb (length c) (largest (λ p. rank_of name p.rec) ps) ≡ b
          → in_zone type (pick b (chosen (λ p. rank_of name p.rec) ps) [])
          ≡ pick b (in_zone type (ranked (rank_of name) (largest (λ p. rank_of name p.rec) ps) ps)) (record { outcome = Outcome.NoSuchName; list = [] })
      by true e = unfold pick in
          let m : length c ≤ largest (λ p. rank_of name p.rec) ps = leb→le _ _ (rw e tt) in
          ap (in_zone type) (chosen_is name ps (omega arith))
      by false e = unfold pick in_zone by_level in refl

  pub by_rank_lem : by_control type name ps (control_of ps (name ∷ ancestors name)) ≡ by_rank type name ps
  unfolding by_rank control_rank by_control ranked pick
  by_rank_lem = by (control_is ps (suc (length name)) (name ∷ ancestors name) names_descend)
    where
      by : {o : Option (List ℕ)} → Controlled (name ∷ ancestors name) o (largest (λ p. control_rank 2 name p.rec) ps) → by_control type name ps o ≡ by_rank type name ps
      by (nobody z) = rw z
      by (ruled c i l) =
          let two = in_below (suc (length name)) names_descend i in
          let short : length name ≤ 255 = short_of name t in
          rw (l, ne_eqb (length c) 0 (λ z. omega (arith, two.1)), list_at 6 (suc (length name)) names_descend i ps, list_at 2 (suc (length name)) names_descend i ps, zone_is c two.1 (omega (arith, two.0)))

-- no rank is above that of the name's own records
most_control : (type : ℕ) (name : List ℕ) → T (is_wire name) → (r : Record) → control_rank type name r ≤ 256
unfolding control_rank
most_control type name t r = omega (arith, control_below type (suc (length name)) (name ∷ ancestors name) (omega arith) (names_descend 0 name t []) r, short_of name t)

pub most_role : (role : Role) (name : List ℕ) → T (is_wire name) → (r : Record) → role_rank role name r ≤ 256
unfolding role_rank
most_role Role.Level name t r = most_rank name t r
most_role Role.Control name t r = most_control 2 name t r
most_role Role.Zone name t r = most_control 6 name t r
