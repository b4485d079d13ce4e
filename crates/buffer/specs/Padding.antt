-- What is filled gives a filled buffer back: zeros stand behind it.
use Rattle.std.specs.Prelude.{List, length, take, drop}
use Rattle.std.proofs.Common.{◌≡◌, refl, sym, ℕ, ◌≤◌, arith, take-append-drop, length-take-le}
use Rattle.buffer.specs.Filling.{IsFilled, padded}

pub front_size : (n len : ℕ) (bytes : List ℕ) → IsFilled n len bytes → length (take len bytes) ≡ len
front_size n len bytes h = length-take-le len bytes (omega (arith, h.0, h.1))

pub front_padded : (n len : ℕ) (bytes : List ℕ) → IsFilled n len bytes → padded n (take len bytes) ≡ bytes
unfolding padded
front_padded n len bytes h = rw (front_size n len bytes h, ← h.2) (take-append-drop len bytes)
