-- The part of a slice from a place to its end, `&mut d[a..]`: what is lent, and the whole when it has come back.
use mathlib.Core.Path.{◌≡◌, sym}
use mathlib.Core.List.{List, ◌++◌, append-nil}
use Prim.Native.Nat.{ℕ, ◌-◌, ◌≤◌}
use native.Mathlib.Omega.{arith}
use lib.ListN.{length, take, drop, length-drop, drop_of_length-le}
use lib.Seq.{take_all, length-take-le}
use borrow.Rule.Slice.PartMut.{put_mid, Post-is}

module _ {A : Type 0} where
  -- what is lent of d from a on, and d when x has come back for it
  abbrev pub lent_at : ℕ → List A → List A
  lent_at a d = take (length d - a) (drop a d)

  abbrev pub back_at : ℕ → List A → List A → List A
  back_at a d x = put_mid a (length d - a) d x

  pub tail_lent : (d : List A) (a : ℕ) → lent_at a d ≡ drop a d
  tail_lent d a = take_all (length d - a) (drop a d) (omega (arith, length-drop a d))

  pub tail_back : (d x : List A) (a : ℕ) → a ≤ length d → back_at a d x ≡ take a d ++ x
  tail_back d x a h = rw (Post-is a (length d) d h, drop_of_length-le d {i = length d} (omega arith), append-nil x)

-- the first n elements of an array of k are n
pub front_count : {A : Type 0} (l : List A) (n k : ℕ) → length l ≡ k → n ≤ k → n ≡ length (take n l)
front_count l n k e h = sym (length-take-le n l (omega arith))
