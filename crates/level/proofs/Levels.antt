-- The level of a well-formed name is the records of the largest rank: ancestors get strictly shorter, so the first full level is the
-- one of the longest key.
use mathlib.Core.Path.{◌≡◌, refl, ap, ◌∙◌, sym, fun_ext}
use mathlib.Core.Bool.{Bool, true, false, not}
use mathlib.Core.List.{List, [], ◌∷◌, map}
use Prim.Native.Nat.{ℕ, zero, suc, ◌<◌, ◌≤◌, max}
use native.Mathlib.Omega.{arith}
use borrow.Author.Tests.{eq-eqb, ne_eqb}
use mathlib.Core.Logic.{◌⊎◌, inl, inr}
use lib.ListN.{length}
use lib.Dec.{T, eqb, leb, nleb→lt, leb→le, le→leb}
use lib.Arith.{lt→nleb}
use Rattle.rules.specs.Lists.{pick, keep}
use Rattle.rules.specs.Names.{labels, is_wire}
use Rattle.rules.specs.Records.{Record}
use Rattle.rules.specs.Questions.{Placed, ordinary_of, wildcard_of, ancestors_from, ancestors, ancestors_to, first_full, level}
use Rattle.rules.proofs.Tests.{pick_ok, pick_yes, pick_no, and_r}
use Rattle.rules.proofs.Names.{labels_of, short_of}
use Rattle.ranks.specs.Ranks.{rank_among, rank_of, largest, chosen}

-- ---- one level more in front

module _ (t : Placed → Bool) (w : ℕ) (f : Placed → ℕ) (small : (p : Placed) → f p < w) where
  abbrev pub over : Placed → ℕ
  over p = pick (t p) w (f p)

  pub over_when : (b : Bool) (n : ℕ) → n < w → (eqb (pick b w n) w ≡ b) × (pick b w n ≤ w)
  unfolding pick
  over_when true n h = (eq-eqb w w refl, omega arith)
  over_when false n h = (ne_eqb n w (λ e. omega arith), omega arith)

  pub most : (ps : List Placed) → largest over ps ≤ w
  unfolding largest
  most [] = omega arith
  most (p ∷ ps) = omega (arith, (over_when (t p) (f p) (small p)).1, most ps)

  same_kept : (ps : List Placed) → keep (λ p. eqb (over p) w) ps ≡ keep t ps
  unfolding keep
  same_kept [] = refl
  same_kept (p ∷ ps) = rw ((over_when (t p) (f p) (small p)).0, same_kept ps)

  -- some are kept: the largest is w
  pub some_kept : (ps : List Placed) (q : Placed) (qs : List Placed) → keep t ps ≡ q ∷ qs → w ≤ largest over ps
  unfolding keep largest
  some_kept [] q qs e = let z : ◌≡◌ {A = ℕ} 0 1 = cc in absurd (omega arith)
  some_kept (p ∷ ps) q qs e = go (t p) refl e (some_kept ps q qs)
    where
      go : (b : Bool) → t p ≡ b → pick b (p ∷ keep t ps) (keep t ps) ≡ q ∷ qs → (keep t ps ≡ q ∷ qs → w ≤ largest over ps) → w ≤ max (pick (t p) w (f p)) (largest over ps)
      go true b e ih = rw b (unfold pick in omega arith)
      go false b e ih = let h : w ≤ largest over ps = ih (unfold pick in e) in omega arith

  -- none are: all that counts is f
  pub none_kept : (ps : List Placed) → keep t ps ≡ [] → (largest over ps ≡ largest f ps) × ((n : ℕ) → keep (λ p. eqb (over p) n) ps ≡ keep (λ p. eqb (f p) n) ps)
  unfolding keep largest
  none_kept [] e = (refl, λ n. refl)
  none_kept (p ∷ ps) e = go (t p) refl e (none_kept ps)
    where
      go : (b : Bool) → t p ≡ b → pick b (p ∷ keep t ps) (keep t ps) ≡ []
          → (keep t ps ≡ [] → (largest over ps ≡ largest f ps) × ((n : ℕ) → keep (λ p. eqb (over p) n) ps ≡ keep (λ p. eqb (f p) n) ps))
          → (max (pick (t p) w (f p)) (largest over ps) ≡ max (f p) (largest f ps))
          × ((n : ℕ) → pick (eqb (pick (t p) w (f p)) n) (p ∷ keep (λ p. eqb (over p) n) ps) (keep (λ p. eqb (over p) n) ps) ≡ pick (eqb (f p) n) (p ∷ keep (λ p. eqb (f p) n) ps) (keep (λ p. eqb (f p) n) ps))
      go true b e ih = unfold pick in let z : ◌≡◌ {A = ℕ} 0 1 = cc in absurd (omega arith)
      go false b e ih =
          let h = ih (unfold pick in e) in
          (rw (b, h.0) (unfold pick in refl), λ n. rw (b, h.1 n) (unfold pick in refl))

  pub one_more : (ps : List Placed) (levels : List (List Placed)) → 0 < w → first_full levels ≡ chosen f ps → first_full (keep t ps ∷ levels) ≡ chosen over ps
  unfolding first_full chosen pick
  one_more ps levels h e = go (keep t ps) refl
    where
      go : (ks : List Placed) → keep t ps ≡ ks → first_full (ks ∷ levels) ≡ chosen over ps
      go [] k = e ∙ sym (rw ((none_kept ps k).0, (none_kept ps k).1 (largest f ps)))
      go (q ∷ qs) k =
          let l : largest over ps ≡ w = omega (arith, most ps, some_kept ps q qs k) in
          sym (rw (l, ne_eqb w 0 (λ z. omega arith), same_kept ps, k))

-- ---- the ancestors of a name

-- shorter than n, and each shorter than the one before it; none is empty
abbrev pub Descending : ℕ → List (List ℕ) → Type 0
Descending n [] = Unit {0}
Descending n (a ∷ names) = (length a < n) × (0 < length a) × Descending (length a) names

weaken : (m n : ℕ) (names : List (List ℕ)) → m ≤ n → Descending m names → Descending n names
weaken m n [] h d = tt
weaken m n (a ∷ names) h d = (omega (arith, d.0), d.1, d.2)

pub not_empty : (n : List ℕ) → T (labels 0 n) → 0 < length n
unfolding labels
not_empty [] t = absurd t
not_empty (b ∷ n) t = omega arith

pub descending : (k : ℕ) (n : List ℕ) → T (labels k n) → Descending (length n) (ancestors_from k n)
unfolding labels ancestors_from
descending zero [] t = tt
descending zero (zero ∷ n) t = tt
descending zero (suc k ∷ n) t = weaken (length n) (suc (length n)) (ancestors_from (suc k) n) (omega arith) (descending (suc k) n (and_r (leb (suc k) 63) (labels (suc k) n) t))
descending (suc k) [] t = tt
descending (suc zero) (b ∷ n) t = (omega arith, not_empty n t, descending zero n t)
descending (suc (suc k)) (b ∷ n) t = weaken (length n) (suc (length n)) (ancestors_from (suc k) n) (omega arith) (descending (suc k) n t)

-- ---- levels

rank_below : (n : ℕ) (names : List (List ℕ)) → 0 < n → Descending n names → (r : Record) → rank_among names r < n
unfolding rank_among pick
rank_below n [] p d r = p
rank_below n (a ∷ names) p d r = go (wildcard_of a r) (rank_below (length a) names d.1 d.2 r)
  where
    go : (b : Bool) → rank_among names r < length a → pick b (length a) (rank_among names r) < n
    go true h = d.0
    go false h = omega (arith, d.0)

nothing : (ps : List Placed) → [] ≡ chosen (λ (p : Placed). 0) ps
unfolding chosen largest pick
nothing ps = rw (zeros ps)
  where
    zeros : (ps : List Placed) → largest (λ (p : Placed). 0) ps ≡ 0
    zeros [] = refl
    zeros (p ∷ ps) = omega (arith, zeros ps)

wildcards : (n : ℕ) (names : List (List ℕ)) → Descending n names → (ps : List Placed)
    → first_full (map (λ a. keep (λ p. wildcard_of a p.rec) ps) names) ≡ chosen (λ p. rank_among names p.rec) ps
unfolding rank_among
wildcards n [] d ps = unfold first_full in nothing ps
wildcards n (a ∷ names) d ps =
    one_more (λ p. wildcard_of a p.rec) (length a) (λ p. rank_among names p.rec) (λ p. rank_below (length a) names d.1 d.2 p.rec)
    ps (map (λ b. keep (λ p. wildcard_of b p.rec) ps) names) d.1 (wildcards (length a) names d.2 ps)

-- ---- W8: no higher than the control name

-- a number that is at least c, else 0
unfoldable pub floored : ℕ → ℕ → ℕ
floored c n = pick (leb c n) n 0

higher_none : (c n : ℕ) (names : List (List ℕ)) → n ≤ c → Descending n names → keep (λ a. leb c (length a)) names ≡ []
unfolding keep
higher_none c n [] h d = refl
higher_none c n (a ∷ names) h d = pick_no _ _ _ (lt→nleb c (length a) (omega (arith, d.0))) ∙ higher_none c (length a) names (omega (arith, d.0)) d.2

descending_to : (c n : ℕ) (names : List (List ℕ)) → Descending n names → Descending n (keep (λ a. leb c (length a)) names)
unfolding keep
descending_to c n [] d = tt
descending_to c n (a ∷ names) d =
    pick_ok (Descending n) (leb c (length a)) (λ t. (d.0, d.1, descending_to c (length a) names d.2))
    (λ t. weaken (length a) n (keep (λ b. leb c (length b)) names) (omega (arith, d.0)) (descending_to c (length a) names d.2))

rank_floored : (c n : ℕ) (names : List (List ℕ)) → Descending n names → (r : Record) → rank_among (keep (λ a. leb c (length a)) names) r ≡ floored c (rank_among names r)
unfolding keep rank_among floored
rank_floored c n [] d r = pick_ok (λ m. 0 ≡ m) (leb c 0) (λ t. refl) (λ t. refl)
rank_floored c n (a ∷ names) d r =
    let ih = rank_floored c (length a) names d.2 r in
    pick_ok (λ (ks : List (List ℕ)). rank_among ks r ≡ floored c (pick (wildcard_of a r) (length a) (rank_among names r))) (leb c (length a))
    (λ t. yes (wildcard_of a r) ih t) (λ t. no (wildcard_of a r) ih t)
  where
    kept : List (List ℕ)
    kept = keep (λ b. leb c (length b)) names

    yes : (w : Bool) → rank_among kept r ≡ floored c (rank_among names r) → T (leb c (length a)) → pick w (length a) (rank_among kept r) ≡ floored c (pick w (length a) (rank_among names r))
    yes true ih t = unfold pick in sym (pick_yes (leb c (length a)) (length a) 0 t)
    yes false ih t = unfold pick in ih

    no : (w : Bool) → rank_among kept r ≡ floored c (rank_among names r) → T (not (leb c (length a))) → rank_among kept r ≡ floored c (pick w (length a) (rank_among names r))
    no true ih t = unfold pick in
        let none : kept ≡ [] = higher_none c (length a) names (omega (arith, nleb→lt c (length a) t)) d.2 in
        ap (λ (ks : List (List ℕ)). rank_among ks r) none ∙ sym (pick_no (leb c (length a)) (length a) 0 t)
    no false ih t = unfold pick in ih

-- of numbers floored, those of the largest are those of the largest before, unless that is below
module _ (c : ℕ) (positive : 0 < c) (f : Placed → ℕ) where
  Cases : ℕ → Type 0
  Cases n = ((c ≤ n) × (floored c n ≡ n)) ⊎ ((n < c) × (floored c n ≡ 0))

  cases : (n : ℕ) → Cases n
  unfolding Cases floored
  cases n = pick_ok (λ m. ((c ≤ n) × (m ≡ n)) ⊎ ((n < c) × (m ≡ 0))) (leb c n) (λ t. inl (leb→le c n t, refl)) (λ t. inr (nleb→lt c n t, refl))

  floored_max : (a b : ℕ) → max (floored c a) (floored c b) ≡ floored c (max a b)
  unfolding Cases
  floored_max a b = by (cases a) (cases b) (cases (max a b))
    where
      by : Cases a → Cases b → Cases (max a b) → max (floored c a) (floored c b) ≡ floored c (max a b)
      by (inl h) (inl k) (inl m) = omega arith
      by (inl h) (inl k) (inr m) = omega arith
      by (inl h) (inr k) (inl m) = omega arith
      by (inl h) (inr k) (inr m) = omega arith
      by (inr h) (inl k) (inl m) = omega arith
      by (inr h) (inl k) (inr m) = omega arith
      by (inr h) (inr k) (inl m) = omega arith
      by (inr h) (inr k) (inr m) = omega arith

  largest_floored : (ps : List Placed) → largest (λ p. floored c (f p)) ps ≡ floored c (largest f ps)
  unfolding largest
  largest_floored [] = unfold floored in pick_ok (λ m. 0 ≡ m) (leb c 0) (λ t. refl) (λ t. refl)
  largest_floored (p ∷ ps) = ap (max (floored c (f p))) (largest_floored ps) ∙ floored_max (f p) (largest f ps)

  floored_is : (l n : ℕ) → c ≤ l → eqb (floored c n) l ≡ eqb n l
  unfolding floored
  floored_is l n h = pick_ok (λ m. eqb m l ≡ eqb n l) (leb c n) (λ t. refl) (λ t. let k : n < c = nleb→lt c n t in ne_eqb 0 l (λ e. omega arith) ∙ sym (ne_eqb n l (λ e. omega arith)))

  kept_floored : (l : ℕ) (ps : List Placed) → c ≤ l → keep (λ p. eqb (floored c (f p)) l) ps ≡ keep (λ p. eqb (f p) l) ps
  unfolding keep
  kept_floored l [] h = refl
  kept_floored l (p ∷ ps) h = rw (floored_is l (f p) h, kept_floored l ps h)

  pub chosen_floored : (ps : List Placed) → chosen (λ p. floored c (f p)) ps ≡ pick (leb c (largest f ps)) (chosen f ps) []
  unfolding chosen
  chosen_floored ps = by (leb c l) refl
    where
      l : ℕ
      l = largest f ps

      by : (b : Bool) → leb c l ≡ b → pick (eqb (largest (λ p. floored c (f p)) ps) 0) [] (keep (λ p. eqb (floored c (f p)) (largest (λ p. floored c (f p)) ps)) ps) ≡ pick b (chosen f ps) []
      by true e = unfold pick floored in
          let h : T (leb c (largest f ps)) = rw e tt in
          let is : largest (λ p. floored c (f p)) ps ≡ largest f ps = largest_floored ps ∙ pick_yes (leb c (largest f ps)) _ 0 h in
          rw (is, kept_floored (largest f ps) ps (leb→le c (largest f ps) h))
      by false e = unfold pick floored in
          let h : T (not (leb c (largest f ps))) = rw e tt in
          let is : largest (λ p. floored c (f p)) ps ≡ 0 = largest_floored ps ∙ pick_no (leb c (largest f ps)) _ 0 h in
          rw is

pub level_is : (control name : List ℕ) → T (is_wire name) → 0 < length control → length control ≤ 256 → (ps : List Placed)
    → level control name ps ≡ pick (leb (length control) (largest (λ p. rank_of name p.rec) ps)) (chosen (λ p. rank_of name p.rec) ps) []
unfolding level rank_of ancestors ancestors_to
level_is control name t positive short ps =
    let d : Descending 256 (ancestors_from 0 name) = weaken (length name) 256 (ancestors_from 0 name) (omega (arith, short_of name t)) (descending 0 name (labels_of name t)) in
    let names : List (List ℕ) = keep (λ a. leb (length control) (length a)) (ancestors_from 0 name) in
    let e : Descending 256 names = descending_to (length control) 256 (ancestors_from 0 name) d in
    one_more (λ p. ordinary_of name p.rec) 256 (λ p. rank_among names p.rec) (λ p. rank_below 256 names (omega arith) e p.rec)
    ps (map (λ a. keep (λ p. wildcard_of a p.rec) ps) names) (omega arith) (wildcards 256 names e ps)
    ∙ ap (λ (f : Placed → ℕ). chosen f ps) (fun_ext (λ p. own (ordinary_of name p.rec) _ _ (rank_floored (length control) 256 (ancestors_from 0 name) d p.rec)))
    ∙ chosen_floored (length control) positive (λ p. rank_of name p.rec) ps
  where
    own : (b : Bool) (m n : ℕ) → m ≡ floored (length control) n → pick b 256 m ≡ floored (length control) (pick b 256 n)
    own true m n e = unfold pick floored in sym (pick_yes (leb (length control) 256) 256 0 (le→leb (length control) 256 short))
    own false m n e = unfold pick in e

-- no rank is above that of the name's own records
pub most_rank : (name : List ℕ) → T (is_wire name) → (r : Record) → rank_of name r ≤ 256
unfolding rank_of ancestors pick
most_rank name t r =
    let d : Descending 256 (ancestors_from 0 name) = weaken (length name) 256 (ancestors_from 0 name) (omega (arith, short_of name t)) (descending 0 name (labels_of name t)) in
    go (ordinary_of name r) (rank_below 256 (ancestors_from 0 name) (omega arith) d r)
  where
    go : (b : Bool) → rank_among (ancestors_from 0 name) r < 256 → pick b 256 (rank_among (ancestors_from 0 name) r) ≤ 256
    go true h = omega arith
    go false h = omega arith
