-- A change of placed records that no test of the rules sees: the outcome stays, and the list has the same change.
use mathlib.Core.Path.{◌≡◌, refl, sym, ap, ap₂, ◌∙◌}
use Prim.Native.Nat.{ℕ}
use mathlib.Core.Bool.{Bool, ◌&&◌}
use mathlib.Core.List.{List, [], ◌∷◌, map}
use Rattle.std.specs.Prelude.{Option, Some, None}
use Rattle.rules.specs.Lists.{keep, lower}
use Rattle.rules.specs.Records.{Record}
use Rattle.rules.specs.Questions.{Placed, Question, Best, better, best_of, location_of, visible, ordinary_of, wildcard_of, ancestors_to, first_full, level, of_type, ordinary_of_type, is_full, control_of, Result, by_level, in_zone, by_control, answers}
use Rattle.rules.proofs.Tests.{pick_ap}
use Rattle.rules.proofs.Lists.{keep_map}

-- a test of the record alone doesn't see a change
abbrev pub Blind : (Placed → Placed) → (Record → Bool) → Type 0
Blind f t = (p : Placed) → t (f p).rec ≡ t p.rec

pub record Unseen (f : Placed → Placed) : Type 0 where
  pub ordinary : (n : List ℕ) → Blind f (ordinary_of n)
  pub wildcard : (n : List ℕ) → Blind f (wildcard_of n)
  pub seen : (here : List ℕ) (moment : ℕ) → Blind f (visible here moment)
  pub typed : (n : ℕ) → Blind f (of_type n)
  pub located : (client : List ℕ) (best : Best) (p : Placed) → better client best (f p).rec ≡ better client best p.rec

-- a result with its list changed
unfoldable pub changed : (Placed → Placed) → Result → Result
changed f r = record { outcome = r.outcome; list = map f r.list }

module _ (f : Placed → Placed) (u : Unseen f) where
  keeps : (t : Record → Bool) → Blind f t → (ps : List Placed) → keep (λ p. t p.rec) (map f ps) ≡ map f (keep (λ p. t p.rec) ps)
  keeps t h ps = keep_map f _ _ h ps

  first_full_lem : (ls : List (List Placed)) → first_full (map (map f) ls) ≡ map f (first_full ls)
  unfolding first_full
  first_full_lem [] = refl
  first_full_lem ([] ∷ ls) = first_full_lem ls
  first_full_lem ((p ∷ ps) ∷ ls) = refl

  level_same : (c n : List ℕ) (ps : List Placed) → level c n (map f ps) ≡ map f (level c n ps)
  unfolding level
  level_same c n ps =
      ap first_full (ap₂ ◌∷◌ (keeps (ordinary_of n) (u.ordinary n) ps) (covered (ancestors_to c n)))
      ∙ first_full_lem (keep (λ p. ordinary_of n p.rec) ps ∷ map (λ a. keep (λ p. wildcard_of a p.rec) ps) (ancestors_to c n))
    where
      covered : (ns : List (List ℕ)) → map (λ a. keep (λ p. wildcard_of a p.rec) (map f ps)) ns ≡ map (map f) (map (λ a. keep (λ p. wildcard_of a p.rec) ps) ns)
      covered [] = refl
      covered (a ∷ ns) = ap₂ ◌∷◌ (keeps (wildcard_of a) (u.wildcard a) ps) (covered ns)

  full_same : (ps : List Placed) → is_full (map f ps) ≡ is_full ps
  unfolding is_full
  full_same [] = refl
  full_same (p ∷ ps) = refl

  typed_same : (t : ℕ) (n : List ℕ) (ps : List Placed) → ordinary_of_type t n (map f ps) ≡ map f (ordinary_of_type t n ps)
  unfolding ordinary_of_type
  typed_same t n ps = keeps (λ r. ordinary_of n r && of_type t r) (λ p. ap₂ ◌&&◌ (u.ordinary n p) (u.typed t p)) ps

  has_same : (t : ℕ) (n : List ℕ) (ps : List Placed) → is_full (ordinary_of_type t n (map f ps)) ≡ is_full (ordinary_of_type t n ps)
  has_same t n ps = ap is_full (typed_same t n ps) ∙ full_same (ordinary_of_type t n ps)

  control_same : (ps : List Placed) (ns : List (List ℕ)) → control_of (map f ps) ns ≡ control_of ps ns
  unfolding control_of
  control_same ps [] = refl
  control_same ps (n ∷ ns) = rw (has_same 2 n ps, control_same ps ns)

  by_level_lem : (ps ws : List Placed) → by_level (map f ps) (map f ws) ≡ changed f (by_level ps ws)
  unfolding by_level changed
  by_level_lem [] ws = refl
  by_level_lem (p ∷ ps) [] = refl
  by_level_lem (p ∷ ps) (w ∷ ws) = refl

  zone_same : (t : ℕ) (ps : List Placed) → in_zone t (map f ps) ≡ changed f (in_zone t ps)
  unfolding in_zone
  zone_same t ps = ap (by_level (map f ps)) (keeps (of_type t) (u.typed t) ps) ∙ by_level_lem ps _

  by_control_lem : (t : ℕ) (n : List ℕ) (ps : List Placed) (c : Option (List ℕ)) → by_control t n (map f ps) c ≡ changed f (by_control t n ps c)
  unfolding by_control changed
  by_control_lem t n ps None = refl
  by_control_lem t n ps (Some c) =
      rw (has_same 6 c ps, level_same c n ps, zone_same t (level c n ps), typed_same 2 c ps) (sym (pick_ap (changed f) (is_full (ordinary_of_type 6 c ps)) _ _))

  best_same : (c : List ℕ) (b : Best) (ps : List Placed) → best_of c b (map (λ p. p.rec) (map f ps)) ≡ best_of c b (map (λ p. p.rec) ps)
  unfolding best_of
  best_same c b [] = refl
  best_same c b (p ∷ ps) = best_same c (better c b (f p).rec) ps ∙ ap (λ (x : Best). best_of c x (map (λ p. p.rec) ps)) (u.located c b p)

  location_same : (c : List ℕ) (ps : List Placed) → location_of c (map (λ p. p.rec) (map f ps)) ≡ location_of c (map (λ p. p.rec) ps)
  unfolding location_of
  location_same c ps = ap (λ (b : Best). b.lo) (best_same c _ ps)

  pub answers_same : (q : Question) (ps : List Placed) → answers q (map f ps) ≡ changed f (answers q ps)
  unfolding answers
  answers_same q ps =
      let here : List ℕ = location_of q.client (map (λ p. p.rec) ps) in
      rw (location_same q.client ps, keeps (visible here q.moment) (u.seen here q.moment) ps, control_same) (by_control_lem q.type (map lower q.name) _ _)
