-- The laws of a buffer's front: bytes stand there, and the rest is as it was.
use mathlib.Core.Path.{◌≡◌, ap, ◌∙◌, sym}
use mathlib.Core.List.{List}
use Prim.Native.Nat.{ℕ, ◌+◌, ◌<◌, ◌≤◌}
use native.Mathlib.Omega.{arith}
use lib.ListN.{length, take, drop, set, take-append-drop}
use lib.Seq.{drop-drop, drop-set-lt, length-take-le}
use Rattle.buffer.specs.Put.{IsPut}

-- bytes are put where the buffer's front is they and the rest is as it was
pub put_by : (x d out : List ℕ) (r : ℕ) → length out ≡ length d → r ≤ length d → take r out ≡ x → drop r out ≡ drop r d → IsPut x d out r
put_by x d out r l h f b =
    let q : length x ≡ r = ap length (sym f) ∙ length-take-le r out (omega arith) in
    record { count = sym q; room = omega arith; holds = sym (take-append-drop r out) ∙ rw (f, b, q) }

-- what is behind stays as it was, one byte on
pub on : (out d : List ℕ) (i : ℕ) → drop (i + 1) out ≡ drop (i + 1) d → drop (i + 1 + 1) out ≡ drop (i + 1 + 1) d
on out d i e = rw (← drop-drop 1 (i + 1) out, e, drop-drop 1 (i + 1) d)

-- a store within the front leaves the rest
pub stays : (out d : List ℕ) (i j b : ℕ) → drop i out ≡ drop i d → j < i + 1 → drop (i + 1) (set out j b) ≡ drop (i + 1) d
stays out d i j b e h = drop-set-lt (i + 1) out j b h ∙ rw (← drop-drop 1 i out, e, drop-drop 1 i d)
