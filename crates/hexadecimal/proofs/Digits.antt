-- The laws of bytes as hexadecimal digits.
use mathlib.Core.Path.{◌≡◌, refl, ap}
use mathlib.Core.List.{List, [], ◌∷◌, ◌++◌, append-nil, append_assoc}
use Prim.Native.Nat.{ℕ, zero, suc, ◌+◌, ◌*◌, ◌/◌, ◌%◌, ◌<◌, ◌≤◌}
use native.Mathlib.Numerals.{add-one}
use native.Mathlib.Omega.{arith}
use borrow.Author.Rules.{rules}
use mir.Syntax.{w8}
use mir.Val.{Fits}
use lib.ListN.{length, get_or, take, set, length-set}
use lib.Seq.{take-suc, take-suc-set}
use Rattle.std.specs.Str.{IsAscii, IsUtf8}
use Rattle.std.proofs.lemmas.List.{nil_from_length}
use Rattle.std.proofs.lemmas.Str.{IsUtf8-from_ascii}
use Rattle.io.specs.Digits.{hex_digit_ascii}
use Rattle.std.specs.Prelude.{Result, Ok, Err, MatchResult, IsOk}
use Rattle.hexadecimal.specs.Hex.{hex_text}

-- the text of joined bytes is the joined texts
pub joined : (a b : List ℕ) → hex_text (a ++ b) ≡ hex_text a ++ hex_text b
unfolding hex_text
joined [] b = refl
joined (x ∷ a) b = ap (λ (l : List ℕ). hex_digit_ascii (x / 16) ∷ hex_digit_ascii (x % 16) ∷ l) (joined a b)

-- the text of one byte more
snoc : (bs : List ℕ) (b : ℕ)
    → hex_text (bs ++ (b ∷ [])) ≡ hex_text bs ++ (hex_digit_ascii (b / 16) ∷ hex_digit_ascii (b % 16) ∷ [])
unfolding hex_text
snoc bs b = joined bs (b ∷ [])

take_put : (l : List ℕ) (n a : ℕ) → n < length l → take (n + 1) (set l n a) ≡ take n l ++ a ∷ []
take_put l n a h = rw (add-one, take-suc-set l n a h)

-- the digits of the bytes before i are put
abbrev pub Done : List ℕ → List ℕ → ℕ → Type 0
Done bytes room i = take (2 * i) room ≡ hex_text (take i bytes)

pub begin : (bytes room : List ℕ) → Done bytes room 0
unfolding hex_text
begin bytes room = refl

pub more : (bytes room : List ℕ) (i h l : ℕ)
    → Done bytes room i → i < length bytes → length bytes ≤ 256 → length room ≡ 512
    → h ≡ hex_digit_ascii (get_or bytes i 0 / 16) → l ≡ hex_digit_ascii (get_or bytes i 0 % 16)
    → Done bytes (set (set room (2 * i) h) (2 * i + 1) l) (i + 1)
more bytes room i h l e k w s p q =
    let o : 2 * (i + 1) ≡ 2 * i + 1 + 1 = omega arith in
    let a : take (i + 1) bytes ≡ take i bytes ++ (get_or bytes i 0 ∷ []) = rw (add-one, take-suc bytes i 0 k) in
    let b = take_put (set room (2 * i) h) (2 * i + 1) l (simp length-set (omega arith)) in
    let d = take_put room (2 * i) h (omega arith) in
    rw (o, b, d, a, snoc (take i bytes) (get_or bytes i 0), e, p, q, append_assoc)

digit_ascii : (d : ℕ) → d < 16 → hex_digit_ascii d < 128
digit_ascii d h = search rules

ascii : (bs : List ℕ) → ((i : ℕ) → Fits w8 (get_or bs i 0)) → IsAscii (hex_text bs)
unfolding hex_text
ascii [] h i = omega arith
ascii (b ∷ bs) h zero = digit_ascii (b / 16) (omega (arith, h 0))
ascii (b ∷ bs) h (suc zero) = digit_ascii (b % 16) (omega arith)
ascii (b ∷ bs) h (suc (suc i)) = ascii bs (λ j. h (suc j)) i

pub is_text : (bs : List ℕ) → ((i : ℕ) → Fits w8 (get_or bs i 0)) → IsUtf8 (hex_text bs)
is_text bs h = IsUtf8-from_ascii (hex_text bs) (ascii bs h)

-- a reading of text that is valid is no fault
pub valid_ok : {A E X : Type 0} (P : A → Type 0) (Q : E → Type 0) (r : Result A E) → MatchResult r (λ s. P s × X) (λ e. (X → ⊥) × Q e) → X → IsOk r
valid_ok P Q (Ok s) m x = search rules
valid_ok P Q (Err e) m x = absurd (m.0 x)

-- a turn hands the bytes x, in front of those left, over to those done
pub turn : (all done left x rest : List ℕ) → done ++ left ≡ all → left ≡ x ++ rest → (done ++ x) ++ rest ≡ all
turn all done left x rest e c = rw (append_assoc, ← c) e

pub none_left : (all done left : List ℕ) → done ++ left ≡ all → length left ≡ 0 → done ≡ all
none_left all done left e h =
    let z : left ≡ [] = nil_from_length left h in
    rw (z, append-nil) at e

pub ruleset digit_laws = (rules, begin, more)
