-- The loop that puts the labels of a name.
use mathlib.Core.Path.{◌≡◌, ap, sym}
use mathlib.Core.Bool.{true}
use mathlib.Core.List.{List, [], ◌∷◌, ◌++◌, append-nil, append_assoc}
use Prim.Native.Nat.{ℕ, ◌+◌, ◌<◌, ◌≤◌}
use native.Mathlib.Omega.{arith}
use lib.ListN.{length, take, set, length-append, length-drop}
use Rattle.rules.specs.Lists.{Each, join_all, split_on}
use Rattle.rules.specs.Names.{label, name_of, wire_of}
use Rattle.wire.proofs.Parts.{lent_at, back_at, tail_lent}
use Rattle.buffer.specs.Put.{IsPut}
use Rattle.buffer.proofs.Puts.{Run, run_none, run_more, run_front, stored, put_length}
use Rattle.names.specs.Views.{is_named}
use Rattle.names.proofs.Parts.{Labels, parts_wire, parts_few}

-- what is written, and the labels that are left behind it and a zero, are the wire
pub record Putting (wire d out : List ℕ) (used : ℕ) (left : List (List ℕ)) : Type 0 where
  pub run : Run d out used
  pub going : take used out ++ Labels left ++ 0 ∷ [] ≡ wire
  pub fits : length wire ≤ length d
  pub few : Each (λ p. length p ≤ 63) left

pub begin : (s d : List ℕ) (left : List (List ℕ)) → is_named (name_of s) ≡ true → length (wire_of s) ≤ length d → left ≡ split_on 46 s → Putting (wire_of s) d d 0 left
begin s d left n h e = rw e record { run = run_none d; going = sym (parts_wire s n); fits = h; few = parts_few s n }

module _ (wire d out : List ℕ) (used : ℕ) where
  module _ (all : List (List ℕ)) (given : Putting wire d out used all) (x : List ℕ) (left : List (List ℕ)) (first : all ≡ x ∷ left) where
    p : Putting wire d out used (x ∷ left)
    p = rw first at given

    pub short : length x ≤ 63
    short = p.few.0

    pub room : length (label x) ≤ length (lent_at used out)
    unfolding join_all
    room =
        let l = put_length (take used out) d out used p.run in
        simp (tail_lent, length-drop) (omega (arith, p.fits, p.run.count, p.run.room, simp (length-append) at (ap length p.going)))

    pub more : (e : List ℕ) (k : ℕ) → IsPut (label x) (lent_at used out) e k → Putting wire d (back_at used out e) (used + k) left
    unfolding join_all
    more e k q = record {
      run = run_more d out used p.run (label x) e k q;
      going = rw (run_front d out used p.run (label x) e k q) (rw (append_assoc (take used out) (label x) (Labels left)) p.going);
      fits = p.fits;
      few = p.few.1;
    }

  pub within : (left : List (List ℕ)) → Putting wire d out used left → used ≤ length out
  within left p = omega (arith, put_length (take used out) d out used p.run, p.run.count, p.run.room)

  module _ (left : List (List ℕ)) (p : Putting wire d out used left) (z : left ≡ []) where
    last_is : take used out ++ 0 ∷ [] ≡ wire
    unfolding join_all
    last_is = rw (z, append-nil (take used out)) at p.going

    pub last_room : used < length out
    last_room =
        let l = put_length (take used out) d out used p.run in
        omega (arith, p.fits, p.run.count, simp (length-append) at (ap length last_is))

    pub whole : IsPut wire d (set out used 0) (used + 1)
    whole =
        let l = put_length (take used out) d out used p.run in
        rw last_is at (stored (take used out) d out used 0 p.run (omega (arith, last_room)))
