-- 01, Who sees what, and 02, W8: the client's location, visibility, lifetime, control name, level, type and outcome, over a list of records.
use Rattle.std.specs.Prelude.{ℕ, zero, suc, ◌+◌, ◌-◌, min, max, Bool, true, false, not, ◌&&◌, ◌||◌, List, [], ◌∷◌, map, length, drop, leb, ltb, eqb, Option, Some, None}
use Rattle.rules.specs.declared.replies.Outcome.{Outcome}
use Rattle.rules.specs.Lists.{pick, keep, begins_with, same_bytes, lower}
use Rattle.rules.specs.Records.{Record, location, resource}
use Rattle.rules.specs.Bytes.{wild, size}

-- "A question: a name on the wire .., a 16-bit type (255: all), a client address of 4 or 16 bytes, a moment (a TAI64 number)"
pub record Question : Type 0 where
  pub name : List ℕ
  pub type : ℕ
  pub client : List ℕ
  pub moment : ℕ

-- a record and where it ends: the sum of its size and of all sizes before it
pub record Placed : Type 0 where
  pub rec : Record
  pub end : ℕ

unfoldable pub placed_from : ℕ → List Record → List Placed
placed_from at [] = []
placed_from at (r ∷ rs) = record { rec = r; end = at + size r } ∷ placed_from (at + size r) rs

-- "the longest prefix that its address begins with .. A 16-byte client matches only the empty prefix."
unfoldable pub matches : List ℕ → List ℕ → Bool
matches client prefix = begins_with prefix client && (eqb (length client) 4 || eqb (length prefix) 0)

-- the lo of the best prefix so far, and how long a better one is at least; nothing yet: [] and 0
pub record Best : Type 0 where
  pub lo : List ℕ
  pub at_least : ℕ

-- "of equal prefixes the first line counts"
unfoldable pub better : List ℕ → Best → Record → Best
better client best (resource owner type lo ttl time rdata) = best
better client best (location prefix lo) =
    pick (matches client prefix && leb best.at_least (length prefix)) (record { lo = lo; at_least = suc (length prefix) }) best

unfoldable pub best_of : List ℕ → Best → List Record → Best
best_of client best [] = best
best_of client best (r ∷ rs) = best_of client (better client best r) rs

-- "The client's location comes from the longest prefix .., whichever line of the source has it .. No match: no location."
unfoldable pub location_of : List ℕ → List Record → List ℕ
location_of client rs = (best_of client (record { lo = []; at_least = 0 }) rs).lo

-- "no time, always; ttl not 0, from its time on (moment >= time); ttl 0, before it (moment < time)"
unfoldable pub in_time : ℕ → ℕ → ℕ → Bool
in_time moment ttl zero = true
in_time moment ttl (suc t) = pick (eqb ttl 0) (ltb moment (suc t)) (leb (suc t) moment)

-- "A record is visible if it has no lo or the client's lo, and" in time
unfoldable pub visible : List ℕ → ℕ → Record → Bool
visible here moment (location prefix lo) = false
visible here moment (resource owner type lo ttl time rdata) = (eqb (length lo) 0 || same_bytes lo here) && in_time moment ttl time

-- "A visible record of the last sort is given the seconds left as lifetime, at least 2 and at most 3,600; others keep their ttl."
unfoldable pub lifetime_of : ℕ → Record → ℕ
lifetime_of moment (location prefix lo) = 0
lifetime_of moment (resource owner type lo (suc ttl) time rdata) = suc ttl
lifetime_of moment (resource owner type lo zero zero rdata) = 0
lifetime_of moment (resource owner type lo zero (suc time) rdata) = min 3600 (max 2 (suc time - moment))

-- "any other with an owner is an ordinary record of that owner"
unfoldable pub ordinary_of : List ℕ → Record → Bool
ordinary_of name (location prefix lo) = false
ordinary_of name (resource owner type lo ttl time rdata) = not (wild owner) && same_bytes (map lower owner) name

-- "A record whose owner's first label is just `*` is a wildcard record of the name behind it"
unfoldable pub wildcard_of : List ℕ → Record → Bool
wildcard_of name (location prefix lo) = false
wildcard_of name (resource owner type lo ttl time rdata) = wild owner && same_bytes (map lower (drop 2 owner)) name

-- "its ancestors from the nearest up to the root": what stands behind each label of a name, k more bytes of a label to pass
unfoldable pub ancestors_from : ℕ → List ℕ → List (List ℕ)
ancestors_from zero [] = []
ancestors_from zero (zero ∷ n) = []
ancestors_from zero (suc k ∷ n) = ancestors_from (suc k) n
ancestors_from (suc k) [] = []
ancestors_from (suc zero) (b ∷ n) = n ∷ ancestors_from zero n
ancestors_from (suc (suc k)) (b ∷ n) = ancestors_from (suc k) n

unfoldable pub ancestors : List ℕ → List (List ℕ)
ancestors name = ancestors_from 0 name

-- "the first that has any"
unfoldable pub first_full : List (List Placed) → List Placed
first_full [] = []
first_full ([] ∷ levels) = first_full levels
first_full ((p ∷ ps) ∷ levels) = p ∷ ps

-- W8: "goes no higher than the control name, that name's wildcards included": the ancestors that are no shorter
unfoldable pub ancestors_to : List ℕ → List ℕ → List (List ℕ)
ancestors_to control name = keep (λ a. leb (length control) (length a)) (ancestors name)

-- "Level: the asked name with its visible ordinary records of any type. If there are none, its ancestors .., with their visible wildcard records"
unfoldable pub level : List ℕ → List ℕ → List Placed → List Placed
level control name ps = first_full (keep (λ p. ordinary_of name p.rec) ps ∷ map (λ a. keep (λ p. wildcard_of a p.rec) ps) (ancestors_to control name))

-- "a 16-bit type (255: all)"
unfoldable pub of_type : ℕ → Record → Bool
of_type asked (location prefix lo) = false
of_type asked (resource owner type lo ttl time rdata) = eqb asked 255 || eqb asked type

-- 02, W8: names that aren't ours

-- the ordinary records of a name and a type
unfoldable pub ordinary_of_type : ℕ → List ℕ → List Placed → List Placed
ordinary_of_type type name ps = keep (λ p. ordinary_of name p.rec && of_type type p.rec) ps

unfoldable pub is_full : List Placed → Bool
is_full [] = false
is_full (p ∷ ps) = true

-- "The control name is the nearest of the asked name and its ancestors with a visible ordinary NS record."
unfoldable pub control_of : List Placed → List (List ℕ) → Option (List ℕ)
control_of ps [] = None
control_of ps (n ∷ ns) =
    let higher = control_of ps ns in
    pick (is_full (ordinary_of_type 2 n ps)) (Some n) higher

-- "outcome and list together"
pub record Result : Type 0 where
  pub outcome : Outcome
  pub list : List Placed

-- "records, name without that type (its level has others), unknown name (no level)": by the level and those of the type asked for
unfoldable pub by_level : List Placed → List Placed → Result
by_level [] wanted = record { outcome = Outcome.NoSuchName; list = [] }
by_level (p ∷ ps) [] = record { outcome = Outcome.NoSuchType; list = [] }
by_level (p ∷ ps) (w ∷ ws) = record { outcome = Outcome.Records; list = w ∷ ws }

-- "Only then the type is applied."
unfoldable pub in_zone : ℕ → List Placed → Result
in_zone type ps = by_level ps (keep (λ p. of_type type p.rec) ps)

-- "None: not ours, and no records. With a visible ordinary SOA there it is our zone; without, a delegation, and the call hands out that NS
-- list as a referral, whatever the type."
unfoldable pub by_control : ℕ → List ℕ → List Placed → Option (List ℕ) → Result
by_control type name ps None = record { outcome = Outcome.NotOurs; list = [] }
by_control type name ps (Some control) =
    let zone = in_zone type (level control name ps) in
    pick (is_full (ordinary_of_type 6 control ps)) zone (record { outcome = Outcome.Referral; list = ordinary_of_type 2 control ps })

-- "The answer is that list in line order"; "letter case ignored"
unfoldable pub answers : Question → List Placed → Result
answers q ps =
    let here = location_of q.client (map (λ p. p.rec) ps) in
    let seen = keep (λ p. visible here q.moment p.rec) ps in
    let name = map lower q.name in
    by_control q.type name seen (control_of seen (name ∷ ancestors name))
