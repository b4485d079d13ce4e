-- The laws of bytes put at the front of a lent buffer.
use mathlib.Core.Path.{◌≡◌, refl, ap, ◌∙◌, sym}
use mathlib.Core.List.{List, [], ◌∷◌, ◌++◌, map, map-append, append_assoc, append-nil}
use Prim.Native.Nat.{ℕ, ◌+◌, ◌-◌, ◌<◌, ◌≤◌}
use native.Mathlib.Numerals.{add-one}
use native.Mathlib.Omega.{arith}
use borrow.Author.Rules.{rules}
use lib.ListN.{length, get_or, take, drop, set, length-append, length-drop, length-map}
use lib.Seq.{take-suc, take_all, length-take-le, take_at, drop_at, drop-drop}
use Rattle.wire.proofs.Steps.{put_front, take_put}
use Rattle.wire.proofs.Parts.{lent_at, back_at, tail_lent, tail_back}
use Rattle.buffer.specs.Put.{IsPut}

-- a loop that stores the image of each byte of s, one after the other
module _ (f : ℕ → ℕ) where
  abbrev pub Mapped : List ℕ → List ℕ → List ℕ → ℕ → Type 0
  Mapped s d out i = out ≡ map f (take i s) ++ drop i d

  pub mapped_more : (s d out : List ℕ) (i b : ℕ) → Mapped s d out i → b ≡ f (get_or s i 0) → i < length s → length s ≤ length d → Mapped s d (set out i b) (i + 1)
  mapped_more s d out i b e q h k =
      let m : map f (take (i + 1) s) ≡ map f (take i s) ++ f (get_or s i 0) ∷ [] = rw (add-one, take-suc s i 0 h, map-append) in
      rw (e, q, m) (put_front (map f (take i s)) d i (f (get_or s i 0)) (length-map (take i s) f ∙ length-take-le i s (omega arith)) (omega arith))

  pub mapped_all : (s d out : List ℕ) (i : ℕ) → Mapped s d out i → length s ≤ i → length s ≤ length d → i ≤ length s → IsPut (map f s) d out (length s)
  mapped_all s d out i e h m k =
      let l : length (map f s) ≡ length s = length-map s f in
      let q : i ≡ length s = omega arith in
      record { count = sym l; room = omega arith; holds = rw l (e ∙ rw (take_all i s h, q)) }

-- a loop that stores each byte of s, one after the other
abbrev pub Copied : List ℕ → List ℕ → List ℕ → ℕ → Type 0
Copied s d out i = out ≡ take i s ++ drop i d

pub copied_more : (s d out : List ℕ) (i b : ℕ) → Copied s d out i → b ≡ get_or s i 0 → i < length s → length s ≤ length d → Copied s d (set out i b) (i + 1)
copied_more s d out i b e q h k =
    let m : take (i + 1) s ≡ take i s ++ get_or s i 0 ∷ [] = rw (add-one, take-suc s i 0 h) in
    rw (e, q, m) (put_front (take i s) d i (get_or s i 0) (length-take-le i s (omega arith)) (omega arith))

pub copied_all : (s d out : List ℕ) (i : ℕ) → Copied s d out i → length s ≤ i → length s ≤ length d → i ≤ length s → IsPut s d out (length s)
copied_all s d out i e h m k =
    let q : i ≡ length s = omega arith in
    record { count = refl; room = omega arith; holds = e ∙ rw (take_all i s h, q) }

-- nothing, and a store behind what was put
pub nothing : (d : List ℕ) → IsPut [] d d 0
nothing d = record { count = refl; room = omega arith; holds = refl }

pub stored : (x d e : List ℕ) (i b : ℕ) → IsPut x d e i → i < length d → IsPut (x ++ b ∷ []) d (set e i b) (i + 1)
stored x d e i b p h =
    let l : length (x ++ b ∷ []) ≡ i + 1 = simp length-append (omega (arith, p.count)) in
    let q : length x ≡ i = sym p.count in
    record { count = sym l; room = omega arith; holds = rw (l, p.holds, q) (put_front x d i b q h) }

pub byte : (d : List ℕ) (b : ℕ) → 1 ≤ length d → IsPut (b ∷ []) d (set d 0 b) 1
byte d b h = stored [] d d 0 b (nothing d) (omega arith)

pub two : (d : List ℕ) (a b : ℕ) → 2 ≤ length d → IsPut (a ∷ b ∷ []) d (set (set d 0 a) 1 b) 2
two d a b h = stored (a ∷ []) d (set d 0 a) 1 b (byte d a (omega arith)) (omega arith)

-- what is lent behind what was put
module _ (x d e : List ℕ) (r : ℕ) (p : IsPut x d e r) where
  pub put_length : length e ≡ length d
  put_length = ap length p.holds ∙ simp (length-append, length-drop) (omega (arith, p.room))

  pub behind_length : length (lent_at r e) ≡ length d - r
  behind_length = simp (tail_lent, length-drop) (omega (arith, put_length))

  pub within : r ≤ length e
  within = omega (arith, put_length, p.count, p.room)

  pub front : take r e ≡ x
  front = ap (λ (l : List ℕ). take r l) p.holds ∙ take_at x (drop (length x) d) r (sym p.count)

  behind : lent_at r e ≡ drop (length x) d
  behind = tail_lent e r ∙ ap (λ (l : List ℕ). drop r l) p.holds ∙ drop_at x (drop (length x) d) r (sym p.count)

  -- bytes put behind those
  pub then : (y f : List ℕ) (k : ℕ) → IsPut y (lent_at r e) f k → IsPut (x ++ y) d (back_at r e f) (r + k)
  then y f k q =
      let l : length (x ++ y) ≡ length x + length y = length-append x y in
      let h : f ≡ y ++ drop (length x + length y) d =
      q.holds ∙ rw (behind, drop-drop (length y) (length x) d) in
      record {
        count = rw l (omega (arith, p.count, q.count));
        room = rw l (omega (arith, p.room, p.count, q.room, behind_length));
        holds = rw (tail_back e f r within, front, l, append_assoc x y (drop (length x + length y) d), h);
      }

  -- the same, where the two are written as one: the list comes last, so that the search knows both parts before it compares
  pub then_is : (y f z : List ℕ) (k : ℕ) → IsPut y (lent_at r e) f k → x ++ y ≡ z → IsPut z d (back_at r e f) (r + k)
  then_is y f z k q w = rw w at (then y f k q)

-- a buffer that is filled by what was put at its front
pub filled : (x d e held : List ℕ) (r : ℕ) → IsPut x d e r → held ≡ take r e → held ≡ x
filled x d e held r p h = h ∙ front x d e r p

-- three writers and four, each behind the last
module _ (x d e : List ℕ) (r : ℕ) (p : IsPut x d e r) (y f : List ℕ) (k : ℕ) (q : IsPut y (lent_at r e) f k) where
  pub then_two : (z g w : List ℕ) (m : ℕ) → IsPut z (lent_at (r + k) (back_at r e f)) g m → x ++ y ++ z ≡ w
      → IsPut w d (back_at (r + k) (back_at r e f) g) (r + k + m)
  then_two z g w m s = then_is (x ++ y) d (back_at r e f) (r + k) (then x d e r p y f k q) z g w m s

  module _ (z g : List ℕ) (m : ℕ) (s : IsPut z (lent_at (r + k) (back_at r e f)) g m) where
    pub then_three : (u h w : List ℕ) (n : ℕ) → IsPut u (lent_at (r + k + m) (back_at (r + k) (back_at r e f) g)) h n → x ++ y ++ z ++ u ≡ w
        → IsPut w d (back_at (r + k + m) (back_at (r + k) (back_at r e f) g) h) (r + k + m + n)
    then_three u h w n t =
        then_is (x ++ y ++ z) d (back_at (r + k) (back_at r e f) g) (r + k + m) (then_two z g (x ++ y ++ z) m s refl) u h w n t

-- a run of writes, each behind the last: what is written is the front of the buffer itself, so that a loop's invariant can say it
abbrev pub Run : List ℕ → List ℕ → ℕ → Type 0
Run d e r = IsPut (take r e) d e r

pub run_none : (d : List ℕ) → Run d d 0
run_none d = record { count = refl; room = omega arith; holds = refl }

pub run_store : (d e : List ℕ) (i b : ℕ) → Run d e i → i < length e → i < length d → Run d (set e i b) (i + 1)
run_store d e i b p h k = rw (take_put e i b h) (stored (take i e) d e i b p k)

module _ (d e : List ℕ) (r : ℕ) (p : Run d e r) (y f : List ℕ) (k : ℕ) (q : IsPut y (lent_at r e) f k) where
  pub run_front : take (r + k) (back_at r e f) ≡ take r e ++ y
  run_front = front (take r e ++ y) d (back_at r e f) (r + k) (then (take r e) d e r p y f k q)

  pub run_more : Run d (back_at r e f) (r + k)
  run_more = rw run_front (then (take r e) d e r p y f k q)

  pub run_length : length (back_at r e f) ≡ length d
  run_length = put_length (take (r + k) (back_at r e f)) d (back_at r e f) (r + k) run_more

-- a run that has nothing left to write
pub run_whole : (x d e : List ℕ) (r : ℕ) → Run d e r → take r e ++ [] ≡ x → IsPut x d e r
run_whole x d e r run q = rw (sym (append-nil (take r e)) ∙ q) at run

pub ruleset put_laws = (rules, nothing, byte, two, then_is, within)
