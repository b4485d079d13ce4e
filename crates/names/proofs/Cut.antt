-- A text cut at its dots, as the iterator of `split` does.
use mathlib.Core.Path.{◌≡◌, refl, subst}
use mathlib.Core.Bool.{Bool, true, false}
use mathlib.Core.List.{List, [], ◌∷◌, ◌++◌}
use Prim.Native.Nat.{ℕ}
use native.Mathlib.Omega.{arith}
use lib.Dec.{eqb}
use lib.ListN.{length, get_or}
use denote.Ref.{Bor}
use denote.Param.Members.{Mut}
use Rattle.std.specs.Prelude.{Option, Some, None}
use Rattle.std.specs.Bool.{MatchBool}
use Rattle.std.specs.Fn.{ComputesKey, CalledAt}
use Rattle.std.specs.List.{All, IsFirstMatchOrLen}
use Rattle.std.specs.Slice.Iter.{split_steps}
use Rattle.std.specs.declared.slice.Split.{Split}
use Rattle.std.proofs.lemmas.Fn.{always_returns_same}
use Rattle.std.proofs.lemmas.List.Elements.{All-head, All-tail}
use Rattle.std.proofs.lemmas.Grind.{common_steps}
use Rattle.rules.specs.Lists.{pick, onto_first, split_on}

cut_none : (x : List ℕ) → All (λ b. eqb b 46 ≡ false) x → split_on 46 x ≡ x ∷ []
unfolding split_on pick onto_first
cut_none [] h = refl
cut_none (b ∷ x) h = rw (All-head (λ b. eqb b 46 ≡ false) b x h, cut_none x (All-tail (λ b. eqb b 46 ≡ false) b x h))

cut_at : (x : List ℕ) (y : ℕ) (ys : List ℕ) → All (λ b. eqb b 46 ≡ false) x → eqb y 46 ≡ true → split_on 46 (x ++ y ∷ ys) ≡ x ∷ split_on 46 ys
unfolding split_on pick onto_first
cut_at [] y ys h e = rw e
cut_at (b ∷ x) y ys h e = rw (All-head (λ b. eqb b 46 ≡ false) b x h, cut_at x y ys (All-tail (λ b. eqb b 46 ≡ false) b x h) e)

-- the parts that are left
abbrev pub Left : {F : Type 0} → Split ℕ F → List (List ℕ)
Left s = pick s.done [] (split_on 46 s.rest.now)

cut : (w x rest : List ℕ) (done : Bool) → MatchBool done (w ≡ x) ((y : ℕ) × (w ≡ x ++ (y ∷ rest))) → IsFirstMatchOrLen (λ b. eqb b 46) w (length x)
    → split_on 46 w ≡ x ∷ pick done [] (split_on 46 rest)
unfolding pick
cut w x rest true e h = rw e (cut_none x (λ k d l. subst (λ ys. eqb (get_or ys k d) 46 ≡ false) e (h.0 k d (omega arith) l)))
cut w x rest false e h =
    let front : All (λ b. eqb b 46 ≡ false) x = λ k d l. let a = h.0 k d (omega arith) l in let b = e.1 in grind (arith, common_steps) in
    let hit : eqb e.0 46 ≡ true = let b = e.1 in let a = h.1 (grind (arith, common_steps)) e.0 in grind (arith, common_steps) in
    rw e.1 (cut_at x e.0 rest front hit)

pub first_left : {F : Type 0} (i j : Split ℕ F) (s : List ℕ) → i ≡ j → j.rest.now ≡ s → j.done ≡ false → Left i ≡ split_on 46 s
unfolding pick
first_left i j s e r d = rw (e, r, d)

module _ {F : Type 0} (g : Mut F (Bor ℕ × Unit {0}) Bool) (s t : Split ℕ F) (r : Option (Bor (List ℕ))) (p : split_steps g s r t) where
  pub next_part : (x : Bor (List ℕ)) → r ≡ Some x → ((b : ℕ) (a : Bool) (f : F) → CalledAt g s.pred b a f → (f ≡ s.pred) × (a ≡ eqb b 46)) → Left s ≡ x.now ∷ Left t
  unfolding pick
  next_part x e h =
      let key : ComputesKey g (λ b. eqb b 46) s.pred =
      always_returns_same g (λ a b. b ≡ eqb a.0.now 46) s.pred (λ a b f q. let m = h a.0.now b f (record { shown = a.0; shows = refl; called = q }) in (m.1, m.0)) in
      let q = rw e at p in
      rw q.0 (cut s.rest.now x.now t.rest.now t.done q.1 (q.2 (λ b. eqb b 46) key).1)

  pub last_part : r ≡ None → Left s ≡ []
  unfolding pick
  last_part e = let q = rw e at p in rw q.0
