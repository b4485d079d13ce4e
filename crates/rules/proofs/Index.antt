-- An answer depends on few records: the others can be left out.
use mathlib.Core.Path.{◌≡◌, refl, sym, ap, ap₂, ◌∙◌}
use Prim.Native.Nat.{ℕ}
use mathlib.Core.Bool.{Bool, true, false, not, ◌||◌}
use mathlib.Core.List.{List, [], ◌∷◌, map}
use Rattle.std.specs.Prelude.{Option, Some, None}
use lib.Dec.{T}
use mir.Facts.{T_not}
use Rattle.rules.specs.Lists.{pick, keep, any, lower}
use Rattle.rules.specs.Records.{Record, location, resource}
use Rattle.rules.specs.Answers.{source_records}
use Rattle.rules.specs.Questions.{Question, Placed, Best, better, best_of, location_of, visible, ordinary_of, wildcard_of, ancestors, ancestors_to, first_full, level, of_type, ordinary_of_type, control_of, by_control, answers}
use Rattle.rules.specs.Index.{is_location, matters, matters_to, OtherNamesAreUnseen, TheseAloneDecide, TheseAloneAreAsked, AnIndexIsEnough}
use Rattle.rules.proofs.Tests.{and_l, or_l, or_r, pick_ok}
use Rattle.rules.proofs.Lists.{OnSome, All, nil, cons, all_head, all_keep, all_weaken, keep_map}
use Rattle.rules.proofs.Meaning.{source_ok, written}
use Rattle.rules.proofs.Alike.{bare, same_bare, asked_alike}

-- ---- a choice that has all that a test keeps

module _ {ℓ} {A : Type ℓ} (p c : A → Bool) where
  keep_chosen : ((x : A) → T (p x) → T (c x)) → (xs : List A) → keep p (keep c xs) ≡ keep p xs
  unfolding keep
  keep_chosen h [] = refl
  keep_chosen h (x ∷ xs) = go (p x) (c x) refl refl (h x) (keep_chosen h xs)
    where
      go : (a b : Bool) → p x ≡ a → c x ≡ b → (T (p x) → T (c x)) → keep p (keep c xs) ≡ keep p xs
          → keep p (pick b (x ∷ keep c xs) (keep c xs)) ≡ pick a (x ∷ keep p xs) (keep p xs)
      go a true e f i same = unfold pick keep in rw (e, same)
      go true false e f i same = absurd (rw (e, f) at i tt)
      go false false e f i same = unfold pick in same

  keep_swap : (xs : List A) → keep p (keep c xs) ≡ keep c (keep p xs)
  unfolding keep
  keep_swap [] = refl
  keep_swap (x ∷ xs) = go (p x) (c x) refl refl (keep_swap xs)
    where
      go : (a b : Bool) → p x ≡ a → c x ≡ b → keep p (keep c xs) ≡ keep c (keep p xs)
          → keep p (pick b (x ∷ keep c xs) (keep c xs)) ≡ keep c (pick a (x ∷ keep p xs) (keep p xs))
      go true true e f same = unfold pick keep in rw (e, f, same)
      go true false e f same = unfold pick keep in rw (f, same)
      go false true e f same = unfold pick keep in rw (e, same)
      go false false e f same = unfold pick in same

-- a choice of records has all that pass a test
abbrev Has : (Record → Bool) → (Record → Bool) → Type 0
Has chosen test = (r : Record) → T (test r) → T (chosen r)

record Covers (chosen : Record → Bool) (name : List ℕ) : Type 0 where
  locations : Has chosen is_location
  names : All (λ n. Has chosen (ordinary_of n)) (name ∷ ancestors name)
  wildcards : All (λ n. Has chosen (wildcard_of n)) (ancestors name)

module _ (chosen : Record → Bool) (name : List ℕ) (covers : Covers chosen name) where
  abbrev only : List Placed → List Placed
  only ps = keep (λ p. chosen p.rec) ps

  -- a record left out is no location
  passed : (client : List ℕ) (b : Best) (r : Record) → T (not (chosen r)) → better client b r ≡ b
  unfolding better is_location
  passed client b (resource owner type lo ttl time rdata) t = refl
  passed client b (location prefix lo) t =
      absurd (T_not (chosen (location prefix lo)) (covers.locations (location prefix lo) tt) t)

  best_only : (client : List ℕ) (b : Best) (ps : List Placed)
      → best_of client b (map (λ p. p.rec) (only ps)) ≡ best_of client b (map (λ p. p.rec) ps)
  unfolding keep best_of
  best_only client b [] = refl
  best_only client b (p ∷ ps) =
      pick_ok
      (λ (ks : List Placed). best_of client b (map (λ p. p.rec) ks) ≡ best_of client (better client b p.rec) (map (λ p. p.rec) ps))
      (chosen p.rec)
      (λ t. best_only client (better client b p.rec) ps)
      (λ t. best_only client b ps ∙ ap (λ (x : Best). best_of client x (map (λ p. p.rec) ps)) (sym (passed client b p.rec t)))

  location_only : (client : List ℕ) (ps : List Placed)
      → location_of client (map (λ p. p.rec) (only ps)) ≡ location_of client (map (λ p. p.rec) ps)
  unfolding location_of
  location_only client ps = ap (λ (b : Best). b.lo) (best_only client _ ps)

  typed_only : (type : ℕ) (n : List ℕ) → Has chosen (ordinary_of n) → (ps : List Placed)
      → ordinary_of_type type n (only ps) ≡ ordinary_of_type type n ps
  unfolding ordinary_of_type
  typed_only type n h ps =
      keep_chosen _ _ (λ p t. h p.rec (and_l (ordinary_of n p.rec) (of_type type p.rec) t)) ps

  control_only : (ps : List Placed) {ns : List (List ℕ)} → All (λ n. Has chosen (ordinary_of n)) ns
      → control_of (only ps) ns ≡ control_of ps ns
  unfolding control_of
  control_only ps nil = refl
  control_only ps (cons {x = n} h a) = rw (typed_only 2 n h ps, control_only ps a)

  -- the control name is one of the names
  control_has : (ps : List Placed) {ns : List (List ℕ)} → All (λ n. Has chosen (ordinary_of n)) ns
      → OnSome (λ n. Has chosen (ordinary_of n)) (control_of ps ns)
  unfolding control_of
  control_has ps nil = tt
  control_has ps (cons h a) = pick_ok (OnSome (λ n. Has chosen (ordinary_of n))) _ (λ t. h) (λ t. control_has ps a)

  covered_only : (ps : List Placed) {ns : List (List ℕ)} → All (λ n. Has chosen (wildcard_of n)) ns
      → map (λ a. keep (λ p. wildcard_of a p.rec) (only ps)) ns ≡ map (λ a. keep (λ p. wildcard_of a p.rec) ps) ns
  covered_only ps nil = refl
  covered_only ps (cons h a) = ap₂ ◌∷◌ (keep_chosen _ _ (λ p t. h p.rec t) ps) (covered_only ps a)

  level_only : (control : List ℕ) (ps : List Placed) → level control name (only ps) ≡ level control name ps
  unfolding level ancestors_to
  level_only control ps =
      ap first_full
      (ap₂ ◌∷◌ (keep_chosen _ _ (λ p t. all_head covers.names p.rec t) ps) (covered_only ps (all_keep _ covers.wildcards)))

  control_by : (type : ℕ) (ps : List Placed) (o : Option (List ℕ)) → OnSome (λ n. Has chosen (ordinary_of n)) o
      → by_control type name (only ps) o ≡ by_control type name ps o
  unfolding by_control
  control_by type ps None h = refl
  control_by type ps (Some control) h = rw (typed_only 6 control h ps, typed_only 2 control h ps, level_only control ps)

only_these : (q : Question) (chosen : Record → Bool) → Covers chosen (map lower q.name) → (ps : List Placed)
    → answers q (keep (λ p. chosen p.rec) ps) ≡ answers q ps
unfolding answers
only_these q chosen covers ps =
    let name : List ℕ = map lower q.name in
    let here : List ℕ = location_of q.client (map (λ p. p.rec) ps) in
    rw
    (location_only chosen name covers q.client ps, keep_swap (λ p. visible here q.moment p.rec) (λ p. chosen p.rec) ps, control_only chosen name covers _ covers.names)
    (control_by chosen name covers q.type _ _ (control_has chosen name covers _ covers.names))

-- ---- the records that matter

-- what one of the tests passes, any does
any_has {ℓ} : {A : Type ℓ} (p : A → Record → Bool) (ns : List A) → All (λ n. Has (λ r. any (λ m. p m r) ns) (p n)) ns
unfolding any
any_has p [] = nil
any_has p (n ∷ ns) = cons (λ r t. or_l (p n r) _ t) (all_weaken (λ m h r t. or_r (p n r) _ (h r t)) (any_has p ns))

module _ (name : List ℕ) where
  abbrev by_name_lem : Record → Bool
  by_name_lem r = any (λ n. ordinary_of n r) (name ∷ ancestors name)

  abbrev by_wildcard : Record → Bool
  by_wildcard r = any (λ n. wildcard_of n r) (ancestors name)

  matters_covers : Covers (matters name) name
  unfolding matters
  matters_covers = record {
    locations = λ r t. or_l (is_location r || by_name_lem r) (by_wildcard r) (or_l (is_location r) (by_name_lem r) t);
    names =
        all_weaken (λ n h r t. or_l (is_location r || by_name_lem r) (by_wildcard r) (or_r (is_location r) (by_name_lem r) (h r t)))
        (any_has ordinary_of (name ∷ ancestors name));
    wildcards =
        all_weaken (λ n h r t. or_r (is_location r || by_name_lem r) (by_wildcard r) (h r t))
        (any_has wildcard_of (ancestors name));
  }

covers_more : (chosen wider : Record → Bool) (name : List ℕ) → ((r : Record) → T (chosen r) → T (wider r))
    → Covers chosen name → Covers wider name
covers_more chosen wider name h c = record {
  locations = λ r t. h r (c.locations r t);
  names = all_weaken (λ n k r t. h r (k r t)) c.names;
  wildcards = all_weaken (λ n k r t. h r (k r t)) c.wildcards;
}

pub other_names_are_unseen : OtherNamesAreUnseen
unfolding OtherNamesAreUnseen matters_to
other_names_are_unseen q ps = only_these q (matters (map lower q.name)) (matters_covers (map lower q.name)) ps

only_bare : (q : Question) (chosen : Record → Bool) → Covers chosen (map lower q.name) → (rs : List Record)
    → answers q (map bare (keep chosen rs)) ≡ answers q (map bare rs)
unfolding bare
only_bare q chosen covers rs =
    ap (answers q) (sym (keep_map bare (λ p. chosen p.rec) chosen (λ r. refl) rs))
    ∙ only_these q chosen covers (map bare rs)

pub these_alone_decide : TheseAloneDecide
unfolding TheseAloneDecide matters_to
these_alone_decide q rs others e =
    let covers : Covers (matters (map lower q.name)) (map lower q.name) = matters_covers (map lower q.name) in
    same_bare q rs others
    (sym (only_bare q (matters (map lower q.name)) covers rs) ∙ ap (λ (xs : List Record). answers q (map bare xs)) e ∙ only_bare q (matters (map lower q.name)) covers others)

pub these_alone_are_asked : TheseAloneAreAsked
unfolding TheseAloneAreAsked TheseAloneDecide
these_alone_are_asked q n serialA serialB a b outA outB okA okB roomA roomB e =
    rw (written a serialA outA okA roomA, written b serialB outB okB roomB)
    (asked_alike q n (source_ok serialA a okA) (source_ok serialB b okB) (these_alone_decide q _ _ e))

pub an_index_is_enough : AnIndexIsEnough
unfolding AnIndexIsEnough matters_to
an_index_is_enough q n serial source out chosen ok room h =
    let covers : Covers chosen (map lower q.name) =
    covers_more (matters (map lower q.name)) chosen (map lower q.name) h (matters_covers (map lower q.name)) in
    let rs : List Record = source_records serial source in
    rw (written source serial out ok room)
    (asked_alike q n (source_ok serial source ok) (all_keep chosen (source_ok serial source ok)) (same_bare q rs (keep chosen rs) (sym (only_bare q chosen covers rs))))
