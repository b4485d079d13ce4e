-- The loop that judges names on the wire.
use mathlib.Core.Path.{◌≡◌, refl, ◌∙◌, sym}
use mathlib.Core.Bool.{false, ◌&&◌, and-false}
use mathlib.Core.List.{List, [], ◌∷◌}
use Prim.Native.Nat.{ℕ, zero, suc, ◌+◌, ◌-◌, ◌<◌, ◌≤◌}
use native.Mathlib.Omega.{arith}
use borrow.Author.Rules.{rules}
use borrow.Author.Tests.{ne_eqb, le-leb, lt-leb}
use lib.Dec.{eqb, leb}
use lib.ListN.{length, get_or, drop, length-drop, drop_of_length-le}
use lib.Seq.{drop-drop}
use Rattle.rules.specs.Names.{labels, is_wire, longest_name}
use Rattle.wire.proofs.Steps.{left_at}

-- the bytes of a label are passed over
labels_pass : (k : ℕ) (n : List ℕ) → labels k n ≡ labels 0 (drop k n)
unfolding labels
labels_pass zero n = refl
labels_pass (suc k) [] = refl
labels_pass (suc k) (b ∷ n) = labels_pass k n

at_zero : (n : List ℕ) → (length n ≡ 0 → ⊥) → labels 0 (0 ∷ n) ≡ false
unfolding labels
at_zero [] h = absurd (h refl)
at_zero (b ∷ n) h = refl

at_label : (b : ℕ) (n : List ℕ) → (b ≡ 0 → ⊥) → labels 0 (b ∷ n) ≡ (leb b 63 && labels b n)
unfolding labels
at_label zero n h = absurd (h refl)
at_label (suc k) n h = refl

at_last : (b : ℕ) (n : List ℕ) → length n ≡ 0 → labels 0 (b ∷ n) ≡ eqb b 0
unfolding labels
at_last zero [] h = refl
at_last (suc b) [] h = rw (and-false (leb (suc b) 63), ne_eqb (suc b) 0 (λ e. omega arith))
at_last b (c ∷ n) h = absurd (omega arith)

pub too_long_lem : (name : List ℕ) → 255 < length name → false ≡ is_wire name
unfolding is_wire longest_name
too_long_lem name h = rw (lt-leb _ _ h)

pub no_byte : (name : List ℕ) → length name ≡ 0 → false ≡ is_wire name
unfolding is_wire labels
no_byte [] h = rw (and-false (leb 0 longest_name))
no_byte (b ∷ name) h = absurd (omega arith)

pub short_enough : (name : List ℕ) → length name ≤ 255 → labels 0 name ≡ is_wire name
unfolding is_wire longest_name
short_enough name h = rw (le-leb _ _ h)

module _ (name : List ℕ) (i : ℕ) (e : labels 0 (drop i name) ≡ is_wire name) where
  pub closed_early : (label : ℕ) → label ≡ get_or name i 0 → i < length name - 1 → label ≡ 0 → false ≡ is_wire name
  closed_early label b h z =
      let q : get_or name i 0 ≡ 0 = sym b ∙ z in
      rw (left_at name i (omega arith), q, at_zero (drop (i + 1) name) (λ l. omega (arith, length-drop (i + 1) name))) at e

  pub label_long : (label : ℕ) → label ≡ get_or name i 0 → i < length name - 1 → 63 < label → false ≡ is_wire name
  label_long label b h g = rw (left_at name i (omega arith), ← b, at_label label _ (λ z. omega arith), lt-leb _ _ g) at e

  pub label_passed : (label : ℕ) → label ≡ get_or name i 0 → i < length name - 1 → (label ≡ 0 → ⊥) → label ≤ 63 → labels 0 (drop (i + 1 + label) name) ≡ is_wire name
  label_passed label b h z g =
      rw (left_at name i (omega arith), ← b, at_label label _ z, le-leb _ _ g, labels_pass label (drop (i + 1) name), drop-drop label (i + 1) name) at e

  pub passed_last : length name - 1 ≤ i → (i ≡ length name - 1 → ⊥) → false ≡ is_wire name
  unfolding labels
  passed_last h n =
      let p : length name ≤ i = omega arith in
      rw (drop_of_length-le name p) at e

  pub closed : (last : ℕ) → last ≡ length name - 1 → (length name ≡ 0 → ⊥) → i ≡ last → eqb (get_or name last 0) 0 ≡ is_wire name
  closed last l h z =
      let q : i ≡ last = z in
      rw (left_at name i (omega arith), at_last (get_or name i 0) (drop (i + 1) name) (omega (arith, length-drop (i + 1) name)), q) at e

pub ruleset wire_laws = (rules, too_long_lem, no_byte, short_enough, closed_early, label_long, label_passed, passed_last, closed)
