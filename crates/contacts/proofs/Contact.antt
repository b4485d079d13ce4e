-- The law of a contact's room.
use mathlib.Core.Path.{◌≡◌}
use mathlib.Core.List.{List}
use Prim.Native.Nat.{ℕ, ◌+◌, ◌≤◌}
use native.Mathlib.Omega.{arith}
use lib.ListN.{length, length-append}
use Rattle.rules.specs.Records.{contact_of, hostmaster}

pub contact_room : (owner : List ℕ) (n : ℕ) → length (contact_of owner) ≤ 255 → n ≡ 255 → 11 + length owner ≤ n
unfolding contact_of hostmaster
contact_room owner n h e = omega (arith, length-append hostmaster owner)
