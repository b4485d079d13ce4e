-- The records of an answer, as the pass over the stream picks them.
use Rattle.std.specs.Prelude.{ℕ, Bool, false, ◌&&◌, List, eqb, Option, Some, None, slice_get}
use Rattle.rules.specs.declared.replies.Reply.{Reply}
use Rattle.rules.specs.Lists.{keep}
use Rattle.rules.specs.Records.{Record, location, resource}
use Rattle.rules.specs.Questions.{placed_from, of_type}
use Rattle.rules.specs.Reading.{reply_of}
use Rattle.ranks.specs.Ranks.{seen_rank}
use Rattle.ranks.specs.declared.Role.{Role}

-- seen, of the rank, and of the type
unfoldable pub wanted : ℕ → Role → List ℕ → List ℕ → ℕ → ℕ → Record → Bool
wanted type role name here moment best r = eqb (seen_rank role name here moment r) best && of_type type r

unfoldable pub wanted_in : ℕ → Role → List ℕ → List ℕ → ℕ → ℕ → Option Record → Bool
wanted_in type role name here moment best None = false
wanted_in type role name here moment best (Some r) = wanted type role name here moment best r

-- what is answered of a record that ends at a place; a location is never answered
unfoldable pub reply_in : ℕ → ℕ → Option Record → Reply
reply_in moment end None = Reply.NoMore
reply_in moment end (Some (location prefix lo)) = Reply.NoMore
reply_in moment end (Some (resource owner type lo ttl time rdata)) = reply_of moment (Some (record { rec = resource owner type lo ttl time rdata; end = end }))

-- the record of an ordinal among the wanted ones of records that begin at a place
unfoldable pub picked_from : ℕ → Role → List ℕ → List ℕ → ℕ → ℕ → ℕ → ℕ → List Record → Reply
picked_from type role name here moment best at ordinal rs = reply_of moment (slice_get (keep (λ p. wanted type role name here moment best p.rec) (placed_from at rs)) ordinal)
