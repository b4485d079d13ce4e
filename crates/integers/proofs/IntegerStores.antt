-- The bytes of a number: as the library gives them, and as a loop stores them.
use mathlib.Core.Path.{◌≡◌, refl, ap, ◌∙◌, sym}
use mathlib.Core.List.{List, [], ◌∷◌, ◌++◌, append-nil}
use Prim.Native.Nat.{ℕ, zero, suc, ◌+◌, ◌-◌, ◌/◌, ◌%◌, ◌^◌, ◌<◌, ◌≤◌}
use Rattle.std.proofs.Math.Nat.{div-div-eq-div-mul, pow-succ'}
use native.Mathlib.Omega.{arith}
use borrow.Author.Rules.{rules}
use lib.ListN.{length, take, drop, set, length-set}
use lib.Seq.{append_snoc, take_all}
use Rattle.std.specs.Int.{byte_at, bytes_high_first}
use Rattle.rules.specs.Lists.{le, be}
use Rattle.buffer.specs.Put.{IsPut}
use Rattle.wire.proofs.Steps.{take_put}

-- the library's bytes, the highest first: all but the lowest are those of the quotient
byte_above : (k n : ℕ) → byte_at (suc k) n ≡ byte_at k (n / 256)
byte_above zero n = refl
byte_above (suc k) n = ap (λ (m : ℕ). n / m % 256) (pow-succ' 256 (suc k)) ∙ ap (λ (m : ℕ). m % 256) (sym (div-div-eq-div-mul n 256 (256 ^ suc k)))

bytes_above : (k n : ℕ) → bytes_high_first (suc k) n ≡ bytes_high_first k (n / 256) ++ (n % 256 ∷ [])
bytes_above zero n = refl
bytes_above (suc k) n = rw (byte_above k n) (ap (λ (l : List ℕ). byte_at k (n / 256) ∷ l) (bytes_above k n))

high_first : (k n : ℕ) → bytes_high_first k n ≡ be k n
unfolding be
high_first zero n = refl
high_first (suc k) n = bytes_above k n ∙ ap (λ (l : List ℕ). l ++ (n % 256 ∷ [])) (high_first k (n / 256))

pub be_bytes : (k n : ℕ) (bytes : List ℕ) → bytes ≡ bytes_high_first k n → bytes ≡ be k n
be_bytes k n bytes e = e ∙ high_first k n

-- a loop that stores the lowest first: what is stored before the bytes of what is left is the whole
module _ (width : ℕ) (items all : List ℕ) (i rest : ℕ) (e : take i items ++ le (width - i) rest ≡ all) (l : length items ≡ width) where
  pub le_more : i < width → take (i + 1) (set items i (rest % 256)) ++ le (width - (i + 1)) (rest / 256) ≡ all
  unfolding le
  le_more h =
      let q : width - i ≡ suc (width - (i + 1)) = omega arith in
      let f = rw q at e in
      rw (take_put items i (rest % 256) (omega arith), append_snoc) f

  pub le_all : (d : List ℕ) → width ≤ i → width ≤ length d → IsPut all d (items ++ drop width d) width
  unfolding le
  le_all d h k =
      let z : width - i ≡ 0 = omega arith in
      let a : take i items ≡ items = take_all i items (omega arith) in
      let f : items ≡ all = sym (append-nil items) ∙ rw (z, a) at e in
      let n : length all ≡ width = sym (ap length f) ∙ l in
      record { count = sym n; room = omega arith; holds = rw (n, f) }

pub ruleset be_laws = (rules, be_bytes)

pub ruleset le_laws = (rules, length-set, le_more, le_all)
