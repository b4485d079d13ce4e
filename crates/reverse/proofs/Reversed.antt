-- The loop that puts the labels of each byte of an address, the last first.
use mathlib.Core.Path.{◌≡◌, refl}
use mathlib.Core.List.{List, [], ◌∷◌, ◌++◌, map, reverse, append_assoc, reverse-append}
use Prim.Native.Nat.{ℕ, ◌+◌, ◌≤◌, ◌*◌}
use native.Mathlib.Omega.{arith}
use borrow.Author.Tests.{eq-eqb, ne_eqb}
use lib.ListN.{length, take, length-append, length-drop}
use Rattle.std.specs.List.{push}
use Rattle.std.specs.declared.iter.Rev.{Rev}
use Rattle.std.proofs.Common.{Iter}
use Rattle.rules.specs.Lists.{pick, join_all}
use Rattle.rules.specs.Records.{decimal_label, nibble_labels, in_addr_arpa, ip6_arpa, reverse_name}
use Rattle.wire.proofs.Parts.{lent_at, back_at, tail_lent}
use Rattle.buffer.specs.Put.{IsPut}
use Rattle.buffer.proofs.Puts.{Run, run_none, run_front, run_more, run_whole, put_length}
use Rattle.reverse.specs.Reverse.{Gives}

-- the labels of the last byte come first
last_first : (f : ℕ → List ℕ) (a : List ℕ) (b : ℕ) → join_all (map f (reverse (push a b))) ≡ f b ++ join_all (map f (reverse a))
unfolding join_all
last_first f a b = rw reverse-append

-- what is written, and the labels of the bytes that are left behind it, are the labels of the address
pub record Putting (post : ℕ → List ℕ → Type 0) (a d out : List ℕ) (used : ℕ) (rest : List ℕ) : Type 0 where
  pub run : Run d out used
  pub few : used + 4 * length rest ≤ 4 * length a
  pub fits : 4 * length a ≤ length d
  pub going : (f : ℕ → List ℕ) → Gives post f → take used out ++ join_all (map f (reverse rest)) ≡ join_all (map f (reverse a))

-- what is left, as the iterator has it
pub first_rest : (i j : Rev (Iter ℕ)) (k : Iter ℕ) (s : List ℕ) → i ≡ j → j.iter ≡ k → k.rest.now ≡ s → i.iter.rest.now ≡ s
first_rest i j k s e f g = rw (e, f, g)

module _ (post : ℕ → List ℕ → Type 0) (a d : List ℕ) where
  pub begin : (rest : List ℕ) → rest ≡ a → 4 * length a ≤ length d → Putting post a d d 0 rest
  begin rest e h = rw e record { run = run_none d; few = omega arith; fits = h; going = λ f g. refl }

  module _ (out : List ℕ) (used : ℕ) (rest : List ℕ) (p : Putting post a d out used rest) where
    pub within : used ≤ length out
    within = omega (arith, put_length (take used out) d out used p.run, p.run.count, p.run.room)

    module _ (left : List ℕ) (b : ℕ) (e : rest ≡ push left b) (x : List ℕ) (l : length x ≤ 4) where
      longer : length rest ≡ length left + 1
      longer = rw e (length-append left (b ∷ []))

      pub room : length x ≤ length (lent_at used out)
      room = simp (tail_lent, length-drop) (omega (arith, put_length (take used out) d out used p.run, p.few, p.fits, longer))

      pub more : (g r : List ℕ) (k : ℕ) → post b r → x ≡ r → IsPut x (lent_at used out) g k → Putting post a d (back_at used out g) (used + k) left
      more g r k v y q = record {
        run = run_more d out used p.run x g k q;
        few = omega (arith, p.few, longer, q.count);
        fits = p.fits;
        going = λ f w. rw (run_front d out used p.run x g k q, y, w b r v, append_assoc (take used out) (f b) (join_all (map f (reverse left))), ← last_first f left b, ← e) (p.going f w);
      }

    pub all : (f : ℕ → List ℕ) → length rest ≡ 0 → Gives post f → IsPut (join_all (map f (reverse a))) d out used
    all f z g = run_whole (join_all (map f (reverse a))) d out used p.run (none rest z (p.going f g))
      where
        none : (s : List ℕ) → length s ≡ 0 → take used out ++ join_all (map f (reverse s)) ≡ join_all (map f (reverse a)) → take used out ++ [] ≡ join_all (map f (reverse a))
        none [] h q = unfold join_all in q
        none (c ∷ s) h q = absurd (omega arith)

    pub few_put : used ≤ 4 * length a
    few_put = omega (arith, p.few)

-- the suffix behind the labels
pub short_name : (a : List ℕ) → length a ≡ 4 → join_all (map decimal_label (reverse a)) ++ in_addr_arpa ≡ reverse_name a
unfolding reverse_name pick
short_name a h = rw (eq-eqb (length a) 4 h)

pub long_name : (a : List ℕ) → (length a ≡ 4 → ⊥) → join_all (map nibble_labels (reverse a)) ++ ip6_arpa ≡ reverse_name a
unfolding reverse_name pick
long_name a h = rw (ne_eqb (length a) 4 h)

pub reverse_room : (a : List ℕ) (n : ℕ) → length a ≤ 16 → n ≡ 255 → 4 * length a + 14 ≤ n
reverse_room a n h e = omega arith
