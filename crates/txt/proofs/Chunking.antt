-- The laws of a text's chunks: one after the other, their size, and a turn of the loop that puts them.
use mathlib.Core.Path.{◌≡◌, refl, ap, ◌∙◌, sym}
use mathlib.Core.Bool.{Bool, true, false}
use mathlib.Core.List.{List, [], ◌∷◌, ◌++◌, append-nil, append_assoc}
use Prim.Native.Nat.{ℕ, zero, suc, ◌+◌, ◌/◌, ◌<◌, ◌≤◌}
use native.Mathlib.Omega.{arith}
use borrow.Author.Rules.{rules}
use borrow.Author.Tests.{le-leb, lt-leb, ltb-true, ltb-false, leb-true, leb-false}
use lib.Dec.{leb, ltb}
use lib.ListN.{length, take, drop, length-append, length-drop, drop_of_length-le}
use lib.Seq.{take_all, length-take-le, take_at, drop_at}
use Rattle.std.proofs.lemmas.Bool.{cases_lt}
use Rattle.std.proofs.lemmas.List.{nil_from_length}
use mathlib.Core.Logic.{inl, inr}
use Rattle.std.proofs.Common.{min}
use Rattle.rules.specs.Lists.{pick}
use Rattle.rules.specs.Records.{chunks_from, chunks}
use Rattle.buffer.specs.Put.{IsPut}
use Rattle.txt.specs.Chunks.{chunk_size}
use Rattle.wire.proofs.Fuel.{enough}
use Rattle.wire.proofs.Parts.{lent_at, back_at, tail_lent}
use Rattle.buffer.proofs.Puts.{Run, run_none, run_front, run_more, run_whole, put_length, within}

none_left : (fuel : ℕ) → chunks_from fuel [] ≡ []
unfolding chunks_from
none_left zero = refl
none_left (suc fuel) = refl

-- the first chunk before the others
onto : List ℕ → List ℕ → List ℕ
onto t rest = pick (leb (length t) 127) (length t ∷ t) (127 ∷ take 127 t ++ rest)

front : (fuel b : ℕ) (t : List ℕ) → chunks_from (suc fuel) (b ∷ t) ≡ onto (b ∷ t) (chunks_from fuel (drop 127 (b ∷ t)))
unfolding chunks_from onto
front fuel b t = refl

shorter : (b : ℕ) (t : List ℕ) → length (drop 127 (b ∷ t)) ≤ length t
shorter b t = omega (arith, length-drop 127 (b ∷ t))

pub chunks_none : chunks [] ≡ []
unfolding chunks chunks_from
chunks_none = refl

-- the last chunk, and one that others follow
pub chunks_last : (t : List ℕ) → 0 < length t → length t ≤ 127 → chunks t ≡ length t ∷ t
unfolding chunks chunks_from pick
chunks_last [] h k = absurd (omega arith)
chunks_last (b ∷ t) h k = rw (le-leb (length (b ∷ t)) 127 k)

pub chunks_more : (t : List ℕ) → 127 < length t → chunks t ≡ (127 ∷ take 127 t) ++ chunks (drop 127 t)
unfolding chunks chunks_from pick
chunks_more [] h = absurd (omega arith)
chunks_more (b ∷ t) h =
    let rest = drop 127 (b ∷ t) in
    rw (lt-leb (length (b ∷ t)) 127 h, enough chunks_from onto (drop 127) [] none_left front shorter (length t) (length rest) rest (shorter b t) (omega arith))

-- both in one: a first chunk, as the library cuts it, and the others
pub first_chunk : (t x rest : List ℕ) → t ≡ x ++ rest → length x ≡ min 127 (length t) → 0 < length t → chunks t ≡ (length x ∷ x) ++ chunks rest
first_chunk t x rest parts long some = elim (cases_lt 127 (length t)) [
  | inl more ↦
      let k : length x ≡ 127 = omega arith in
      let a : take 127 t ≡ x = rw parts (take_at x rest 127 k) in
      let b : drop 127 t ≡ rest = rw parts (drop_at x rest 127 k) in
      rw (k, ← a, ← b) (chunks_more t more)
  | inr few ↦
      let k : length x ≡ length t = omega arith in
      let n : length rest ≡ 0 = omega (arith, ap length parts, length-append x rest) in
      let z : rest ≡ [] = nil_from_length rest n in
      let q : t ≡ x = parts ∙ rw z (append-nil x) in
      rw (z, chunks_none, append-nil x, ← q) (chunks_last t some few)
]

-- the same by the size of the first chunk
pub chunks_step : (t : List ℕ) (k : ℕ) → 0 < length t → k ≡ chunk_size (length t) → chunks t ≡ (k ∷ take k t) ++ chunks (drop k t)
unfolding chunk_size pick
chunks_step t k h e = go (ltb 127 (length t)) refl e
  where
    go : (b : Bool) → ltb 127 (length t) ≡ b → k ≡ pick b 127 (length t) → chunks t ≡ (k ∷ take k t) ++ chunks (drop k t)
    go true q w = rw w (chunks_more t (ltb-true _ _ q))
    go false q w =
        let l : length t ≤ 127 = ltb-false _ _ q in
        let n : k ≡ length t = w in
        let a : take k t ≡ t = take_all k t (omega arith) in
        let z : drop k t ≡ [] = drop_of_length-le t {i = k} (omega arith) in
        rw (a, z, chunks_none, append-nil (k ∷ t), n) (chunks_last t h l)

length_from : (f : ℕ) (t : List ℕ) → length t ≤ f → length (chunks_from f t) ≡ length t + (length t + 126) / 127
unfolding chunks_from pick
length_from zero [] h = omega arith
length_from zero (b ∷ t) h = absurd (omega arith)
length_from (suc f) [] h = omega arith
length_from (suc f) (b ∷ t) h = go (leb (length (b ∷ t)) 127) refl (length_from f (drop 127 (b ∷ t)) (omega (arith, length-drop 127 (b ∷ t))))
  where
    go : (c : Bool) → leb (length (b ∷ t)) 127 ≡ c
        → length (chunks_from f (drop 127 (b ∷ t))) ≡ length (drop 127 (b ∷ t)) + (length (drop 127 (b ∷ t)) + 126) / 127
        → length (pick c (length (b ∷ t) ∷ b ∷ t) ((127 ∷ take 127 (b ∷ t)) ++ chunks_from f (drop 127 (b ∷ t)))) ≡ length (b ∷ t) + (length (b ∷ t) + 126) / 127
    go true q i = let m : length (b ∷ t) ≤ 127 = leb-true _ _ q in omega arith
    go false q i =
        let m : 127 < length (b ∷ t) = leb-false _ _ q in
        let l = length-drop 126 t in
        omega (arith, length-append (take 126 t) (chunks_from f (drop 126 t)), length-take-le 126 t (omega arith))

-- a chunk is its length and its bytes
pub chunks_length : (t : List ℕ) → length t + (length t + 126) / 127 ≡ length (chunks t)
unfolding chunks
chunks_length t = sym (length_from (length t) t (omega arith))

-- the loop: what is put, and the chunks of what is left behind it, are those of the text
pub record Going (text d out : List ℕ) (used size : ℕ) (left : List ℕ) : Type 0 where
  pub size_is : size ≡ 127
  pub room : used + length (chunks left) ≤ length d
  pub run : Run d out used
  pub whole : take used out ++ chunks left ≡ chunks text

pub begin : (text d : List ℕ) (size : ℕ) (left : List ℕ) → size ≡ 127 → left ≡ text → length (chunks text) ≤ length d → Going text d d 0 size left
begin text d size left e q h = record { size_is = e; room = rw q (omega arith); run = run_none d; whole = rw q }

module _ (text d out : List ℕ) (used size : ℕ) (left : List ℕ) (e : Going text d out used size left) where
  pub starts : used ≤ length out
  starts = within (take used out) d out used e.run

  module _ (x rest : List ℕ) (parts : left ≡ x ++ rest) (long : length x ≡ min size (length left)) (some : 0 < length left) where
    pub small : length x ≤ 127
    small = omega (arith, e.size_is)

    turn : chunks left ≡ (length x ∷ x) ++ chunks rest
    turn = first_chunk left x rest parts (rw e.size_is at long) some

    turn_length : length (chunks left) ≡ 1 + length x + length (chunks rest)
    turn_length = ap length turn ∙ length-append (length x ∷ x) (chunks rest) ∙ omega arith

    pub chunk_room : 1 + length x ≤ length (lent_at used out)
    chunk_room = simp (tail_lent, length-drop) (omega (arith, turn_length, e.room, put_length (take used out) d out used e.run))

    pub sum_within : (r : ℕ) → r ≡ 1 + length x → used + r ≤ length d
    sum_within r c = omega (arith, turn_length, e.room)

    pub next : (f : List ℕ) (r size' : ℕ) → IsPut (length x ∷ x) (lent_at used out) f r → size' ≡ size → Going text d (back_at used out f) (used + r) size' rest
    next f r size' p q = record {
      size_is = q ∙ e.size_is;
      room = omega (arith, turn_length, e.room, p.count);
      run = run_more d out used e.run (length x ∷ x) f r p;
      whole = rw (
        run_front d out used e.run (length x ∷ x) f r p,
        append_assoc (take used out) (length x ∷ x) (chunks rest),
        ← turn,
      ) e.whole;
    }

  pub chunks_all : length left ≡ 0 → IsPut (chunks text) d out used
  chunks_all h =
      let z : left ≡ [] = nil_from_length left h in
      run_whole (chunks text) d out used e.run (rw (z, chunks_none) at e.whole)

  pub chunks_count : length left ≡ 0 → used ≡ length (chunks text)
  chunks_count h = (chunks_all h).count

pub ruleset chunk_laws = (rules, begin, starts, small, chunk_room, sum_within, next, chunks_all, chunks_count)
