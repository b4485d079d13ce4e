-- The answer of whole records to a client who is here, by numbers, as the passes find it.
use Rattle.std.specs.Prelude.{ℕ, Bool, true, false, List, leb, eqb}
use Rattle.rules.specs.declared.replies.Outcome.{Outcome}
use Rattle.rules.specs.declared.replies.Reply.{Reply}
use Rattle.rules.specs.declared.replies.Response.{Response}
use Rattle.rules.specs.Lists.{pick}
use Rattle.rules.specs.Records.{Record}
use Rattle.ranks.specs.Ranks.{largest, seen_rank}
use Rattle.ranks.specs.declared.Role.{Role}
use Rattle.picks.specs.Picks.{picked_from}

unfoldable pub is_found : Reply → Bool
is_found (Reply.Found type lifetime place count) = true
is_found Reply.NoMore = false
is_found (Reply.Refused fault) = false

unfoldable pub said : Outcome → Reply → Response
said outcome reply = record { outcome = outcome; reply = reply }

-- the level is found: its records of the type, or that it has others
unfoldable pub level_from : ℕ → List ℕ → List ℕ → ℕ → ℕ → ℕ → List Record → Response
level_from type name here moment best ordinal rs =
    pick (is_found (picked_from type Role.Level name here moment best 0 0 rs))
    (said Outcome.Records (picked_from type Role.Level name here moment best 0 ordinal rs)) (said Outcome.NoSuchType Reply.NoMore)

-- in our zone: the level goes no higher than the control name
unfoldable pub zone_from : ℕ → List ℕ → List ℕ → ℕ → ℕ → ℕ → List Record → Response
zone_from type name here moment control ordinal rs =
    let best = largest (seen_rank Role.Level name here moment) rs in
    pick (leb control best) (level_from type name here moment best ordinal rs) (said Outcome.NoSuchName Reply.NoMore)

-- the control name is found: our zone, or a delegation
unfoldable pub controlled_from : ℕ → List ℕ → List ℕ → ℕ → ℕ → ℕ → List Record → Response
controlled_from type name here moment control ordinal rs =
    pick (is_found (picked_from 255 Role.Zone name here moment control 0 0 rs)) (zone_from type name here moment control ordinal rs)
    (said Outcome.Referral (picked_from 255 Role.Control name here moment control 0 ordinal rs))

unfoldable pub answered_from : ℕ → List ℕ → List ℕ → ℕ → ℕ → List Record → Response
answered_from type name here moment ordinal rs =
    let control = largest (seen_rank Role.Control name here moment) rs in
    pick (eqb control 0) (said Outcome.NotOurs Reply.NoMore) (controlled_from type name here moment control ordinal rs)
