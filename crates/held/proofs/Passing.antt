-- The laws of passing records, one after the other.
use mathlib.Core.Path.{◌≡◌, refl, ◌∙◌, sym}
use mathlib.Core.List.{List}
use Rattle.std.specs.Prelude.{Option, Some, None, Result, Err}
use Rattle.std.specs.Option.{ok_or}
use Prim.Native.Nat.{ℕ, zero, suc, ◌+◌, ◌<◌, ◌≤◌}
use native.Mathlib.Omega.{arith}
use borrow.Author.Rules.{rules}
use Rattle.places.specs.declared.Place.{Place}
use Rattle.places.specs.Places.{found_at}
use Rattle.held.specs.Nth.{behind, found_from}

stuck : (bytes : List ℕ) (n at : ℕ) → None ≡ found_at bytes at → Err at ≡ found_from n bytes at
unfolding found_from behind
stuck bytes zero at e = rw (← e)
stuck bytes (suc n) at e = rw (← e) (stuck bytes n at e)

-- with so many records left
module _ (bytes : List ℕ) (n left at : ℕ) (e : found_from left bytes at ≡ found_from n bytes 0) where
  pub ended : None ≡ found_at bytes at → Err at ≡ found_from n bytes 0
  ended w = stuck bytes left at w ∙ e

  pub passed : (place : Place) (rest : ℕ) → Some place ≡ found_at bytes at → left ≡ rest + 1 → found_from rest bytes place.next ≡ found_from n bytes 0
  unfolding found_from behind
  passed place rest w q = go left q e
    where
      go : (left : ℕ) → left ≡ rest + 1 → found_from left bytes at ≡ found_from n bytes 0 → found_from rest bytes place.next ≡ found_from n bytes 0
      go zero q e = absurd (omega arith)
      go (suc m) q e =
          let z : m ≡ rest = omega arith in
          let f : found_from m bytes (behind at (found_at bytes at)) ≡ found_from n bytes 0 = e in
          rw (← z) (rw (← w) at f)

  pub arrived : (o : Option Place) → left ≡ 0 → o ≡ found_at bytes at → ok_or o at ≡ found_from n bytes 0
  arrived o q w = rw w (unfold found_from in (rw q at e))

pub ruleset nth_laws = (rules, ended, passed, arrived)
