-- The pass over a stream, record by record.
use Rattle.std.specs.Prelude.{ℕ, Bool, false, not, ◌&&◌, ◌||◌, List, length, eqb, Option, Some, None}
use Rattle.rules.specs.Lists.{pick}
use Rattle.rules.specs.Records.{Record, location, resource, lo_bytes}
use Rattle.rules.specs.Bytes.{wild}
use Rattle.ranks.specs.Ranks.{ends_in}
use Rattle.locate.specs.declared.Step.{Step}

-- what a record is to the pass: malformed; a location, with its lo; or one that may answer, may make a control name, both or neither
pub data Stepped : Type 0 where
  malformed : Stepped
  located : List ℕ → Stepped
  seen : Bool → Bool → Stepped

unfoldable pub step_seen : Option Step → Stepped
step_seen None = malformed
step_seen (Some (Step.Location lo)) = located (lo_bytes lo)
step_seen (Some (Step.Owned answers controls)) = seen answers controls

-- neither
unfoldable pub plain : Stepped → Bool
plain malformed = false
plain (located lo) = false
plain (seen answers controls) = not (answers || controls)

-- of a record whose key the name ends in: a wildcard's, or one of the name itself, may answer
unfoldable pub may_answer : List ℕ → List ℕ → Bool → Bool
may_answer name key w = w || eqb (length name) (length key)

-- and an ordinary NS or SOA record may make a control name
unfoldable pub may_control : Bool → ℕ → Bool
may_control w type = not w && (eqb type 2 || eqb type 6)

unfoldable pub related_step : List ℕ → List ℕ → Bool → ℕ → Stepped
related_step name key w type = seen (may_answer name key w) (may_control w type)

unfoldable pub step_of : List ℕ → List ℕ → Option Record → Stepped
step_of name key None = malformed
step_of name key (Some (location prefix lo)) = located lo
step_of name key (Some (resource owner type lo ttl time rdata)) = pick (ends_in name key) (related_step name key (wild owner) type) (seen false false)
