-- Visibility, test by test.
use mathlib.Core.Path.{◌≡◌, refl}
use mathlib.Core.Bool.{Bool, true, false, not, ◌||◌, and-true}
use Prim.Native.Nat.{ℕ, zero, suc}
use borrow.Author.Rules.{rules}
use borrow.Author.Tests.{eq-eqb, ne_eqb, not-true, not-false}
use lib.ListN.{length}
use lib.Dec.{eqb, leb, ltb}
use Rattle.rules.specs.contracts.quantities.LoPartialEq.TheImpl.{ghosts}
use Rattle.rules.specs.declared.quantities.Lo.{Lo}
use Rattle.rules.specs.declared.quantities.Shared.{Shared}
use Rattle.rules.specs.Lists.{pick, same_bytes}
use Rattle.rules.specs.Records.{lo_bytes}
use Rattle.rules.specs.Questions.{in_time, visible}
use Rattle.view.specs.Views.{sharing}

-- ---- lo

pub for_all : (lo here : Lo) → lo ≡ Lo.Every → true ≡ (eqb (length (lo_bytes lo)) 0 || same_bytes (lo_bytes lo) (lo_bytes here))
unfolding lo_bytes
for_all lo here e = rw e

-- the derived equality compares the bytes of two codes
pub told : (a b : ℕ) (here : Lo) → ghosts.eq (Lo.Code a b) here ≡ (eqb (length (lo_bytes (Lo.Code a b))) 0 || same_bytes (lo_bytes (Lo.Code a b)) (lo_bytes here))
unfolding lo_bytes same_bytes
told a b Lo.Every = refl
told a b (Lo.Code c d) = rw and-true

pub ruleset here_laws = (rules, for_all)

-- ---- time

module _ (moment ttl : ℕ) where
  pub no_time : (time : ℕ) → time ≡ 0 → true ≡ in_time moment ttl time
  unfolding in_time
  no_time time z = rw z

  pub before_time : (time : ℕ) → (time ≡ 0 → ⊥) → ttl ≡ 0 → ltb moment time ≡ in_time moment ttl time
  unfolding in_time pick
  before_time zero n z = absurd (n refl)
  before_time (suc t) n z = rw (eq-eqb ttl 0 z)

  pub from_time : (time : ℕ) → (time ≡ 0 → ⊥) → (ttl ≡ 0 → ⊥) → leb time moment ≡ in_time moment ttl time
  unfolding in_time pick
  from_time zero n z = absurd (n refl)
  from_time (suc t) n z = rw (ne_eqb ttl 0 z)

pub ruleset time_laws = (rules, no_time, before_time, from_time)

module _ (here : Lo) (moment : ℕ) (shared : Shared) (t : Bool)
    (q : t ≡ (eqb (length (lo_bytes shared.lo)) 0 || same_bytes (lo_bytes shared.lo) (lo_bytes here))) where
  pub elsewhere : not t ≡ true → false ≡ visible (lo_bytes here) moment (sharing shared)
  unfolding visible sharing
  elsewhere n = rw (← q, not-true t n)

  pub seen_in_time : (u : Bool) → not t ≡ false → u ≡ in_time moment shared.ttl.0 shared.time.0 → u ≡ visible (lo_bytes here) moment (sharing shared)
  unfolding visible sharing
  seen_in_time u n p = rw (← q, not-false t n, p)

pub ruleset visible_laws = (rules, elsewhere, seen_in_time)
