-- A good key: a name free of A to Z that fits the owner.
use mathlib.Core.Path.{◌≡◌, refl}
use mathlib.Core.Bool.{Bool, true, false, not, ◌&&◌, and-true, and-false}
use mathlib.Core.List.{List}
use Prim.Native.Nat.{ℕ}
use borrow.Author.Rules.{rules}
use borrow.Author.Tests.{not-true, not-false}
use Rattle.rules.specs.Lists.{pick}
use Rattle.rules.specs.Names.{is_wire}
use Rattle.rules.specs.Reading.{lowered, ordinary_key, wildcard_key}
use Rattle.keys.specs.Keys.{good_key, low_name, fits_owner}

module _ (key : List ℕ) where
  module _ (u : Bool) (p : u ≡ lowered key) where
    pub not_lowered : not u ≡ true → false ≡ low_name key
    unfolding low_name
    not_lowered m = rw (← p, not-true u m, and-false (is_wire key))

    pub name_lowered : (t : Bool) → not u ≡ false → t ≡ is_wire key → t ≡ low_name key
    unfolding low_name
    name_lowered t m q = rw (← p, not-false u m, ← q, and-true t)

  pub good_is : (w : Bool) → good_key w key ≡ (low_name key && fits_owner w key)
  unfolding good_key low_name fits_owner ordinary_key wildcard_key pick
  good_is true = refl
  good_is false = refl

pub ruleset key_laws = (rules, not_lowered, name_lowered)
