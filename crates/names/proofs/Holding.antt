-- A name is put in 255 bytes.
use mathlib.Core.List.{List}
use Prim.Native.Nat.{ℕ, ◌≤◌}
use native.Mathlib.Omega.{arith}
use lib.ListN.{length}
use Rattle.rules.specs.Names.{NameRead, named, misnamed, name_of, wire_in, wire_of}
use Rattle.rules.proofs.Names.{Wire, OnName, name_ok, short_of}

wire_short : (r : NameRead) → OnName Wire r → length (wire_in r) ≤ 255
unfolding wire_in
wire_short (named w) h = short_of w h
wire_short (misnamed f p) h = omega arith

pub name_short : (t : List ℕ) (n : ℕ) → 255 ≤ n → length (wire_of t) ≤ n
unfolding wire_of
name_short t n h = omega (arith, wire_short (name_of t) (name_ok t))
