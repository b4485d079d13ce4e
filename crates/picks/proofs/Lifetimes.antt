-- The lifetime of an answer, test by test.
use mathlib.Core.Path.{◌≡◌, refl, ap, ◌∙◌, sym}
use mathlib.Core.List.{List, []}
use Prim.Native.Nat.{ℕ, zero, suc, ◌-◌, ◌<◌, ◌≤◌, min, max}
use native.Mathlib.Omega.{arith}
use borrow.Author.Rules.{rules}
use Rattle.rules.specs.declared.quantities.Shared.{Shared}
use Rattle.rules.specs.declared.quantities.Ttl.{Ttl}
use Rattle.rules.specs.Records.{resource, lo_bytes}
use Rattle.rules.specs.Questions.{lifetime_of}
use Rattle.view.specs.Views.{sharing}

module _ (moment : ℕ) (lo : List ℕ) where
  kept : (ttl time : ℕ) → 0 < ttl → lifetime_of moment (resource [] 0 lo ttl time []) ≡ ttl
  unfolding lifetime_of
  kept zero time h = absurd (omega arith)
  kept (suc ttl) time h = refl

  unending : (ttl time : ℕ) → ttl ≤ 0 → time ≡ 0 → lifetime_of moment (resource [] 0 lo ttl time []) ≡ 0
  unfolding lifetime_of
  unending zero zero h z = refl
  unending zero (suc time) h z = absurd (omega arith)
  unending (suc ttl) time h z = absurd (omega arith)

  ending : (ttl time : ℕ) → ttl ≤ 0 → (time ≡ 0 → ⊥) → lifetime_of moment (resource [] 0 lo ttl time []) ≡ min 3600 (max 2 (time - moment))
  unfolding lifetime_of
  ending zero zero h z = absurd (z refl)
  ending zero (suc time) h z = refl
  ending (suc ttl) time h z = absurd (omega arith)

abbrev seconds : ℕ → Ttl
seconds n = record { 0 = n }

module _ (moment : ℕ) (shared : Shared) where
  pub keeps_ttl : 0 < shared.ttl.0 → seconds shared.ttl.0 ≡ seconds (lifetime_of moment (sharing shared))
  unfolding sharing
  keeps_ttl h = ap seconds (sym (kept moment (lo_bytes shared.lo) shared.ttl.0 shared.time.0 h))

  module _ (z : shared.ttl.0 ≤ 0) where
    pub no_end : shared.time.0 ≡ 0 → seconds 0 ≡ seconds (lifetime_of moment (sharing shared))
    unfolding sharing
    no_end e = ap seconds (sym (unending moment (lo_bytes shared.lo) shared.ttl.0 shared.time.0 z e))

    module _ (n : shared.time.0 ≡ 0 → ⊥) where
      left : (k : ℕ) → k ≡ min 3600 (max 2 (shared.time.0 - moment)) → seconds k ≡ seconds (lifetime_of moment (sharing shared))
      unfolding sharing
      left k e = ap seconds (e ∙ sym (ending moment (lo_bytes shared.lo) shared.ttl.0 shared.time.0 z n))

      pub over : shared.time.0 ≤ moment → seconds 2 ≡ seconds (lifetime_of moment (sharing shared))
      over h = left 2 (omega arith)

      pub soon : shared.time.0 - moment < 2 → seconds 2 ≡ seconds (lifetime_of moment (sharing shared))
      soon h = left 2 (omega arith)

      pub late : 3600 < shared.time.0 - moment → seconds 3600 ≡ seconds (lifetime_of moment (sharing shared))
      late h = left 3600 (omega arith)

      pub seconds_left : 2 ≤ shared.time.0 - moment → shared.time.0 - moment ≤ 3600 → seconds (shared.time.0 - moment) ≡ seconds (lifetime_of moment (sharing shared))
      seconds_left h k = left (shared.time.0 - moment) (omega arith)

pub ruleset lifetime_laws = (rules, keeps_ttl, no_end, over, soon, late, seconds_left)
