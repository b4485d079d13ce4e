-- The laws of the end of a line.
use mathlib.Core.Path.{◌≡◌, refl, ap, ◌∙◌, sym}
use mathlib.Core.Bool.{Bool, true, false}
use mathlib.Core.List.{List, [], ◌∷◌, ◌++◌}
use mathlib.Core.Logic.{◌⊎◌, inl, inr}
use Prim.Native.Nat.{ℕ, suc, ◌-◌, ◌<◌, ◌≤◌, zero}
use native.Mathlib.Omega.{arith}
use borrow.Author.Rules.{rules}
use borrow.Author.Tests.{ne_eqb}
use lib.ListN.{length, get_or, take, drop}
use lib.Seq.{take-suc, take-length, length-take-le}
use Rattle.std.proofs.lemmas.List.{take-take, nil_from_length}
use Rattle.rules.specs.Lists.{pick}
use Rattle.rules.specs.Kinds.{blank, before_stripped, strip}
use Rattle.kinds.specs.Strips.{IsStripped}

before_some : (x : ℕ) (xs : List ℕ) (b : ℕ) → before_stripped x (xs ++ (b ∷ [])) ≡ x ∷ xs ++ (b ∷ [])
unfolding before_stripped
before_some x [] b = refl
before_some x (y ∷ xs) b = refl

strip_snoc : (xs : List ℕ) (b : ℕ) → strip (xs ++ (b ∷ [])) ≡ pick (blank b) (strip xs) (xs ++ (b ∷ []))
unfolding strip before_stripped
strip_snoc [] b = refl
strip_snoc (x ∷ xs) b = ap (before_stripped x) (strip_snoc xs b) ∙ by (blank b)
  where
    by : (t : Bool) → before_stripped x (pick t (strip xs) (xs ++ (b ∷ []))) ≡ pick t (strip (x ∷ xs)) (x ∷ xs ++ (b ∷ []))
    by true = unfold pick in refl
    by false = unfold pick in before_some x xs b

-- the first n bytes and the last of them
last_of : (s : List ℕ) (n : ℕ) → 0 < n → n ≤ length s → take n s ≡ take (n - 1) s ++ (get_or s (n - 1) 0 ∷ [])
last_of s n h k =
    let e : n ≡ suc (n - 1) = omega arith in
    ap (λ (m : ℕ). take m s) e ∙ take-suc s (n - 1) 0 (omega arith)

-- what is left of the line, from its front, is all but blanks
pub record Left (s left : List ℕ) : Type 0 where
  pub front : left ≡ take (length left) s
  pub most : length left ≤ length s
  pub same : strip left ≡ strip s

pub begin : (s : List ℕ) → Left s s
begin s = record { front = sym (take-length s); most = omega arith; same = refl }

module _ (s left : List ℕ) (e : Left s left) where
  module _ (h : 0 < length left) where
    ends : left ≡ take (length left - 1) left ++ (get_or left (length left - 1) 0 ∷ [])
    ends = sym (take-length left) ∙ last_of left (length left) h (omega arith)

    pub fewer : length (take (length left - 1) left) ≡ length left - 1
    fewer = length-take-le (length left - 1) left (omega arith)

    dropped : blank (get_or left (length left - 1) 0) ≡ true → Left s (take (length left - 1) left)
    unfolding pick
    dropped b =
        let q : strip left ≡ strip (take (length left - 1) left) = ap strip ends ∙ strip_snoc (take (length left - 1) left) (get_or left (length left - 1) 0) ∙ rw b in record {
          front = rw fewer (ap (λ (l : List ℕ). take (length left - 1) l) e.front ∙ take-take (length left - 1) (length left) s (omega arith));
          most = rw fewer (omega (arith, e.most));
          same = sym q ∙ e.same;
        }

    pub dropped_one : (get_or left (length left - 1) 0 ≡ 32) ⊎ (get_or left (length left - 1) 0 ≡ 9) → Left s (take (length left - 1) left)
    unfolding blank
    dropped_one (inl b) = dropped (rw b)
    dropped_one (inr b) = dropped (rw b)

    pub kept : (get_or left (length left - 1) 0 ≡ 32 → ⊥) → (get_or left (length left - 1) 0 ≡ 9 → ⊥) → IsStripped s (length left)
    unfolding blank pick
    kept a b = record {
      most = e.most;
      left = sym e.front ∙ ends ∙ sym (sym e.same ∙ ap strip ends ∙ rw (strip_snoc (take (length left - 1) left) (get_or left (length left - 1) 0), ne_eqb _ _ a, ne_eqb _ _ b) refl);
    }

  pub nothing : length left < 1 → IsStripped s (length left)
  unfolding strip
  nothing h =
      let z : left ≡ [] = nil_from_length left (omega arith) in
      record { most = e.most; left = sym e.front ∙ z ∙ rw z at e.same }

pub ruleset strip_laws = (rules, begin, fewer, dropped_one, kept, nothing)

-- ---- a line

-- the kind byte and the rest
pub parted_line : (line : List ℕ) (n : ℕ) → (n ≡ 0 → ⊥) → n ≤ length line → take n line ≡ get_or line 0 0 ∷ take (n - 1) (drop 1 line)
parted_line line zero some h = absurd (some refl)
parted_line [] (suc n) some h = absurd (omega arith)
parted_line (b ∷ line) (suc n) some h =
    let e : suc n - 1 ≡ n = omega arith in
    rw e
