-- The part of a stream that has every record of a role: those that can answer for a name, or make its control name.
use Rattle.std.specs.Prelude.{ℕ, ◌≤◌, ◌≡◌, true, List, [], length, take, drop, Option, Some, None}
use Rattle.rules.specs.Lists.{is_some, value_or}
use Rattle.rules.specs.Reading.{decode}
use Rattle.ranks.specs.Ranks.{largest, seen_rank}
use Rattle.ranks.specs.declared.Role.{Role}
use Rattle.picks.specs.Picks.{picked_from}
use Rattle.locate.specs.declared.Judged.{Judged}

-- of whole records, those from one place up to another have the same ranks in a role and give the same answers
pub record Covers (role : Role) (name stream : List ℕ) (from until : ℕ) : Type 0 where
  pub ordered : from ≤ until
  pub inside : until ≤ length stream
  pub whole : is_some (decode stream) ≡ true → is_some (decode (drop from (take until stream))) ≡ true
  pub ranks : (here : List ℕ) (moment : ℕ) → is_some (decode stream) ≡ true
      → largest (seen_rank role name here moment) (value_or [] (decode (drop from (take until stream)))) ≡ largest (seen_rank role name here moment) (value_or [] (decode stream))
  pub picks : (type : ℕ) (here : List ℕ) (moment best ordinal : ℕ) → is_some (decode stream) ≡ true → (best ≡ 0 → ⊥)
      → picked_from type role name here moment best from ordinal (value_or [] (decode (drop from (take until stream)))) ≡ picked_from type role name here moment best 0 ordinal (value_or [] (decode stream))

-- what is promised of the parts that were found; of a stream that isn't whole records, nothing
abbrev pub Covered : List ℕ → List ℕ → Option Judged → Type 0
Covered name stream None = Unit {0}
Covered name stream (Some judged) =
    Covers Role.Level name stream judged.level.from judged.level.until
    × Covers Role.Control name stream judged.control.from judged.control.until
    × Covers Role.Zone name stream judged.control.from judged.control.until
