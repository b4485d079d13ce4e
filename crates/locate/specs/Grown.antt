-- A part of a stream up to the end of one more record, where it takes that.
use Rattle.std.specs.Prelude.{ℕ, Bool, true, false, Option, Some, None}
use Rattle.locate.specs.declared.Part.{Part}

unfoldable pub grown_to : Option Part → Bool → ℕ → ℕ → Option Part
grown_to p false at next = p
grown_to None true at next = Some (record { from = at; until = next })
grown_to (Some p) true at next = Some (record { from = p.from; until = next })
