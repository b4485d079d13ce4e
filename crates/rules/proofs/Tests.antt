-- Laws of tests and of what a test picks.
use mathlib.Core.Path.{◌≡◌, refl}
use mathlib.Core.Bool.{Bool, true, false, not, ◌&&◌, ◌||◌}
use lib.Dec.{T, leb→le, ltb→lt, eqb→eq, le→leb, lt→ltb}
use mir.Facts.{yes_and}
use Rattle.rules.specs.Lists.{pick}

pub is_true : (b : Bool) → T b → b ≡ true
is_true true t = refl
is_true false t = absurd t

pub is_false : (b : Bool) → T (not b) → b ≡ false
is_false true t = absurd t
is_false false t = refl

pub and_l : (a b : Bool) → T (a && b) → T a
and_l true b t = tt
and_l false b t = t

pub and_r : (a b : Bool) → T (a && b) → T b
and_r true b t = t
and_r false b t = absurd t

pub or_l : (a b : Bool) → T a → T (a || b)
or_l true b t = tt
or_l false b t = absurd t

pub or_r : (a b : Bool) → T b → T (a || b)
or_r true b t = tt
or_r false b t = t

-- what a test says: `search tests`; and a test from what it says: `search passes`
pub ruleset tests = (and_l, and_r, leb→le, ltb→lt, eqb→eq)

pub ruleset passes = (yes_and, le→leb, lt→ltb)

module _ {ℓ κ} {A : Type ℓ} where
  pub pick_ok : (P : A → Type κ) (b : Bool) {x y : A} → (T b → P x) → (T (not b) → P y) → P (pick b x y)
  unfolding pick
  pick_ok P true f g = f tt
  pick_ok P false f g = g tt

module _ {ℓ} {A : Type ℓ} where
  pub pick_yes : (b : Bool) (x y : A) → T b → pick b x y ≡ x
  unfolding pick
  pick_yes true x y t = refl
  pick_yes false x y t = absurd t

  pub pick_no : (b : Bool) (x y : A) → T (not b) → pick b x y ≡ y
  unfolding pick
  pick_no true x y t = absurd t
  pick_no false x y t = refl

pub pick_ap {ℓ κ} : {A : Type ℓ} {B : Type κ} (f : A → B) (b : Bool) (x y : A) → f (pick b x y) ≡ pick b (f x) (f y)
unfolding pick
pick_ap f true x y = refl
pick_ap f false x y = refl
