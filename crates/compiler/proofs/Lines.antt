-- The laws of a source's lines, one after the other.
use mathlib.Core.Path.{◌≡◌, refl, ap, ◌∙◌, sym}
use mathlib.Core.Bool.{Bool, true, false}
use mathlib.Core.List.{List, [], ◌∷◌}
use mathlib.Core.Logic.{⊎_elim}
use Prim.Native.Nat.{ℕ, zero, suc, ◌+◌, ◌<◌, ◌≤◌}
use native.Mathlib.Numerals.{add-one}
use native.Mathlib.Omega.{arith}
use borrow.Author.Tests.{eqb-true}
use lib.Dec.{eqb}
use lib.ListN.{length, take, drop, drop_of_length-le, length-drop}
use lib.Seq.{drop-drop}
use Rattle.std.proofs.Common.{Option, Some, None, Bor}
use Rattle.std.specs.Option.{unwrap_or}
use Rattle.std.proofs.lemmas.List.{take_rest}
use Rattle.std.specs.Slice.{IsGetRangeResult}
use Rattle.rules.specs.Lists.{pick, onto_first}
use Rattle.rules.specs.Kinds.{lines_of}
use Rattle.pieces.specs.Pieces.{first_at, IsEnd}
use Rattle.compiler.specs.FirstLine.{first_line}

pub lines_more : (xs : List ℕ) → 0 < length xs → lines_of xs ≡ take (first_at 10 xs) xs ∷ lines_of (drop (suc (first_at 10 xs)) xs)
unfolding lines_of first_at onto_first
lines_more [] h = absurd (omega arith)
lines_more (b ∷ []) h = by (eqb b 10)
  where
    by : (t : Bool) → pick t ([] ∷ []) ((b ∷ []) ∷ []) ≡ take (pick t 0 1) (b ∷ []) ∷ lines_of (drop (suc (pick t 0 1)) (b ∷ []))
    by true = unfold pick in refl
    by false = unfold pick in refl
lines_more (b ∷ (c ∷ xs)) h = by (eqb b 10) (lines_more (c ∷ xs) (omega arith))
  where
    by : (t : Bool) → lines_of (c ∷ xs) ≡ take (first_at 10 (c ∷ xs)) (c ∷ xs) ∷ lines_of (drop (suc (first_at 10 (c ∷ xs))) (c ∷ xs))
        → pick t ([] ∷ lines_of (c ∷ xs)) (onto_first b (lines_of (c ∷ xs)))
        ≡ take (pick t 0 (suc (first_at 10 (c ∷ xs)))) (b ∷ (c ∷ xs)) ∷ lines_of (drop (suc (pick t 0 (suc (first_at 10 (c ∷ xs))))) (b ∷ (c ∷ xs)))
    by true e = unfold pick in refl
    by false e = unfold pick in ap (onto_first b) e

-- the first line, by its definition, ends where the first byte 10 is
first_size : (xs : List ℕ) → length (first_line xs) ≡ first_at 10 xs
unfolding first_line first_at
first_size [] = refl
first_size (b ∷ bs) = by (eqb b 10) (first_size bs)
  where
    by : (t : Bool) → length (first_line bs) ≡ first_at 10 bs → length (pick t [] (b ∷ first_line bs)) ≡ pick t 0 (suc (first_at 10 bs))
    by true e = unfold pick in refl
    by false e = unfold pick in ap suc e

first_is : (xs : List ℕ) → first_line xs ≡ take (first_at 10 xs) xs
unfolding first_line first_at
first_is [] = refl
first_is (b ∷ bs) = by (eqb b 10) (first_is bs)
  where
    by : (t : Bool) → first_line bs ≡ take (first_at 10 bs) bs → pick t [] (b ∷ first_line bs) ≡ take (pick t 0 (suc (first_at 10 bs))) (b ∷ bs)
    by true e = unfold pick in refl
    by false e = unfold pick in ap (λ (l : List ℕ). b ∷ l) e

-- the line at a place within the source, and the lines behind it
pub lines_at : (s : List ℕ) (at n : ℕ) → at < length s → n ≡ length (first_line (drop at s)) → lines_of (drop at s) ≡ first_line (drop at s) ∷ lines_of (drop (at + n + 1) s)
lines_at s at n h e =
    let q : at + n + 1 ≡ at + suc (length (first_line (drop at s))) = omega arith in
    let more = lines_more (drop at s) (omega (arith, length-drop at s)) in
    rw (q, ← (drop-drop (suc (length (first_line (drop at s)))) at s), first_size (drop at s), first_is (drop at s)) more

-- a line, and the lines behind its end, if there is anything behind it
pub line_step : (s : List ℕ) (end : ℕ) (r : Option (Bor (List ℕ))) (d x : Bor (List ℕ)) → x ≡ unwrap_or r d → d.now ≡ [] → 0 < length s → IsEnd 10 s 0 end
    → IsGetRangeResult s (end + 1) (length s) r → lines_of s ≡ take end s ∷ lines_of x.now
line_step s end None d x u n h p g =
    let q : end ≡ first_at 10 s = omega (arith, p.says) in
    let z : drop (suc end) s ≡ [] = drop_of_length-le s {i = suc end} (⊎_elim (λ l. omega arith) (λ l. omega arith) g.0) in
    lines_more s h ∙ rw (← q, z, u, n)
line_step s end (Some y) d x u n h p g =
    let q : end ≡ first_at 10 s = omega (arith, p.says) in
    let z : y.now ≡ drop (suc end) s = g.0.2 ∙ take_rest s (end + 1) ∙ rw add-one in
    lines_more s h ∙ rw (← q, u, z)

-- the test whether there is anything
pub some : (n : ℕ) (b : Bool) → b ≡ eqb n 0 → b ≡ false → 0 < n
some zero b e q = absurd (let z : true ≡ false = sym e ∙ q in let y : ◌≡◌ {A = ℕ} 0 1 = cc in omega arith)
some (suc n) b e q = omega arith

pub none : (n : ℕ) (b : Bool) → b ≡ eqb n 0 → b ≡ true → n ≡ 0
none n b e q = eqb-true n 0 (sym e ∙ q)

pub lines_none : (s : List ℕ) → length s ≡ 0 → lines_of s ≡ []
unfolding lines_of
lines_none [] h = refl
lines_none (b ∷ s) h = absurd (omega arith)

pub lines_few : (s : List ℕ) → length (lines_of s) ≤ length s
unfolding lines_of onto_first pick
lines_few [] = omega arith
lines_few (b ∷ s) = by (eqb b 10) (lines_of s) (lines_few s)
  where
    by : (t : Bool) (ls : List (List ℕ)) → length ls ≤ length s → length (pick t ([] ∷ ls) (onto_first b ls)) ≤ suc (length s)
    by true ls h = omega arith
    by false [] h = omega arith
    by false (l ∷ ls) h = omega arith
