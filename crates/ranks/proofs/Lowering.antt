-- Bytes of a key and bytes of a name with their letters lowered.
use mathlib.Core.Path.{◌≡◌, refl, ◌∙◌, sym}
use mathlib.Core.Bool.{Bool, true, false, not}
use mathlib.Core.List.{List, map}
use Prim.Native.Nat.{ℕ, ◌+◌, ◌<◌, ◌≤◌}
use native.Mathlib.Omega.{arith}
use borrow.Author.Rules.{rules}
use borrow.Author.Tests.{le-leb, lt-leb, eqb-true, eqb-false, not-true, not-false}
use lib.ListN.{length, get_or, drop}
use lib.Dec.{eqb}
use Rattle.rules.specs.Lists.{pick, lower, same_bytes}
use Rattle.wire.proofs.Compare.{other_length_lowered, same_next_lowered, differs_lowered, same_end_lowered}

module _ (k b : ℕ) where
  pub below : b < 65 → eqb k b ≡ eqb k (lower b)
  unfolding lower pick
  below h = rw (lt-leb 65 b h)

  pub above : 90 < b → eqb k b ≡ eqb k (lower b)
  unfolding lower pick
  above h = rw (le-leb 65 b (omega arith), lt-leb b 90 h)

  pub letter : 65 ≤ b → b ≤ 90 → eqb k (b + 32) ≡ eqb k (lower b)
  unfolding lower pick
  letter h g = rw (le-leb 65 b h, le-leb b 90 g)

pub ruleset letter_laws = (rules, below, above, letter)

module _ (key name : List ℕ) (i : ℕ) (e : same_bytes (drop i key) (drop i (map lower name)) ≡ same_bytes key (map lower name)) (l : length key ≡ length name)
    (t : Bool) (q : t ≡ eqb (get_or key i 0) (lower (get_or name i 0))) (h : i < length key) where
  pub next_same : not t ≡ false → same_bytes (drop (i + 1) key) (drop (i + 1) (map lower name)) ≡ same_bytes key (map lower name)
  next_same n = same_next_lowered key name i e l _ h (eqb-true _ _ (sym q ∙ not-false t n)) refl

  pub one_differs : not t ≡ true → false ≡ same_bytes key (map lower name)
  one_differs n = differs_lowered key name i e l _ h refl (eqb-false _ _ (sym q ∙ not-true t n))

pub ruleset same_laws = (rules, other_length_lowered, next_same, one_differs, same_end_lowered)
