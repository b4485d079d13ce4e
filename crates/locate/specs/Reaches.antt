-- How far a stream is judged.
use Rattle.std.specs.Prelude.{ℕ, ◌+◌, ◌≤◌, ◌≡◌, List, length, take, drop, Some}
use Rattle.rules.specs.Records.{Record}
use Rattle.rules.specs.Bytes.{size_of_all}
use Rattle.rules.specs.Questions.{Best}
use Rattle.rules.specs.Reading.{decode}
use Rattle.ranks.specs.Ranks.{largest, seen_rank}
use Rattle.ranks.specs.declared.Role.{Role}
use Rattle.locate.specs.Locations.{located_from}

-- records without a rank
abbrev pub Unranked : Role → List ℕ → List Record → Type 0
Unranked role name rs = (here : List ℕ) (moment : ℕ) → largest (seen_rank role name here moment) rs ≡ 0

-- up to a place: what stands before a part, in it, and behind it; only in the part are records that may answer
pub record Passed (role : Role) (name stream : List ℕ) (from until at : ℕ) : Type 0 where
  pub before : List Record
  pub between : List Record
  pub behind : List Record
  pub ordered : from ≤ until
  pub reached : until ≤ at
  pub front : decode (drop 0 (take from stream)) ≡ Some before
  pub middle : decode (drop from (take until stream)) ≡ Some between
  pub back : decode (drop until (take at stream)) ≡ Some behind
  pub front_size : size_of_all before ≡ from
  pub back_size : until + size_of_all behind ≡ at
  pub front_rank : Unranked role name before
  pub back_rank : Unranked role name behind

-- from one place up to another: whole records that have no rank in any role and leave the location as it is
pub record Plain (name stream : List ℕ) (from at : ℕ) : Type 0 where
  pub records : List Record
  pub ordered : from ≤ at
  pub inside : at ≤ length stream
  pub read : decode (drop from (take at stream)) ≡ Some records
  pub size_is : from + size_of_all records ≡ at
  pub unranked : (role : Role) → Unranked role name records
  pub unlocated : (client : List ℕ) (best : Best) → located_from client best (decode (drop from stream)) ≡ located_from client best (decode (drop at stream))
