-- The laws of the pieces of a text.
use mathlib.Core.Path.{◌≡◌, refl, ◌∙◌}
use mathlib.Core.Bool.{Bool, true, false}
use mathlib.Core.List.{List, [], ◌∷◌}
use Prim.Native.Nat.{ℕ, zero, suc, ◌+◌, ◌-◌, ◌<◌, ◌≤◌}
use native.Mathlib.Numerals.{add-one}
use native.Mathlib.Omega.{arith}
use lib.Dec.{eqb}
use lib.ListN.{length, take, drop, drop_of_length-le}
use lib.Seq.{drop-cons, drop-drop}
use Rattle.rules.specs.Lists.{pick, onto_first, split_on}
use Rattle.std.proofs.Common.{Option, Some, None, Bor}
use Rattle.std.proofs.lemmas.List.{take_rest}
use mathlib.Core.Logic.{⊎_elim}
use Rattle.std.specs.Slice.{IsGetRangeResult}
use Rattle.pieces.specs.Pieces.{first_at, IsEnd, behind_byte, pieces_from, pieces_left}

-- a text is its first piece and those behind the byte that ends it
first_piece : (b : ℕ) (t : List ℕ) → split_on b t ≡ take (first_at b t) t ∷ behind_byte b (drop (first_at b t) t)
unfolding split_on first_at behind_byte onto_first pick
first_piece b [] = refl
first_piece b (x ∷ t) = by (eqb x b) (first_piece b t)
  where
    by : (q : Bool) → split_on b t ≡ take (first_at b t) t ∷ behind_byte b (drop (first_at b t) t)
        → pick q ([] ∷ split_on b t) (onto_first x (split_on b t))
        ≡ take (pick q 0 (suc (first_at b t))) (x ∷ t) ∷ behind_byte b (drop (pick q 0 (suc (first_at b t))) (x ∷ t))
    by true e = refl
    by false e = rw e

piece_by : (b : ℕ) (s : List ℕ) (start : ℕ) → start ≤ length s → pieces_from b s start ≡ split_on b (drop start s)
unfolding pieces_from behind_byte
piece_by b s zero h = refl
piece_by b s (suc e) h = rw (drop-cons s e 0 h)

-- the pieces from a place on are the piece there, and those from behind its end on
pub piece_at : {b : ℕ} {s : List ℕ} {start e : ℕ} → IsEnd b s start e → pieces_from b s start ≡ take (e - start) (drop start s) ∷ pieces_from b s (e + 1)
unfolding pieces_from
piece_at {b} {s} {start} {e} p =
    let q : e - start ≡ first_at b (drop start s) = omega (arith, p.says) in
    rw (add-one e, q, p.says, ← drop-drop (first_at b (drop start s)) start s)
    (piece_by b s start (omega (arith, p.above, p.within)) ∙ first_piece b (drop start s))

pub no_piece : (b : ℕ) (s : List ℕ) (start : ℕ) → length s < start → pieces_from b s start ≡ []
unfolding pieces_from behind_byte
no_piece b s zero h = absurd (omega arith)
no_piece b s (suc e) h = rw (drop_of_length-le s {i = e} (omega arith))

pub all_pieces : (b : ℕ) (s : List ℕ) → pieces_from b s 0 ≡ split_on b s
unfolding pieces_from
all_pieces b s = refl

-- what is left behind a text's first piece
pub step : (b : ℕ) (t : List ℕ) (e : ℕ) (r : Option (Bor (List ℕ))) → e ≡ first_at b t → IsGetRangeResult t (e + 1) (length t) r → split_on b t ≡ take e t ∷ pieces_left b r
unfolding pieces_left behind_byte
step b t e None p h = first_piece b t ∙ rw (← p, drop_of_length-le t {i = e} (⊎_elim (λ l. omega arith) (λ l. omega arith) h.0)) refl
step b t e (Some x) p h =
    let l : e + 1 ≤ length t = h.0.0 in
    let q : x.now ≡ drop (e + 1) t = h.0.2 ∙ take_rest t (e + 1) in
    first_piece b t ∙ rw (← p, drop-cons t e 0 (omega arith), q, add-one) refl

pub left : (b : ℕ) (s : Option (Bor (List ℕ))) (t : Bor (List ℕ)) → s ≡ Some t → (e : ℕ) (r : Option (Bor (List ℕ))) → e ≡ first_at b t.now → IsGetRangeResult t.now (e + 1) (length t.now) r → pieces_left b s ≡ take e t.now ∷ pieces_left b r
unfolding pieces_left
left b s t q e r p h = rw q (step b t.now e r p h)
