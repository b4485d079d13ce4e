-- 02, W8: what each outcome says of its list, as short laws over any records. proofs/Outcomes.antt proves them.
use Rattle.std.specs.Prelude.{ℕ, ◌≡◌, Bool, true, false, ◌&&◌, List, [], ◌∷◌, ◌++◌, map, T, Option, Some, None}
use Rattle.rules.specs.declared.replies.Outcome.{Outcome}
use Rattle.rules.specs.Lists.{keep, all, lower}
use Rattle.rules.specs.Questions.{Question, Placed, location_of, visible, ordinary_of, wildcard_of, ancestors, ancestors_to, first_full, of_type, ordinary_of_type, is_full, control_of, answers}

-- the records that the client of a question sees at its moment
unfoldable pub visible_to : Question → List Placed → List Placed
visible_to q ps =
    let here = location_of q.client (map (λ p. p.rec) ps) in
    keep (λ p. visible here q.moment p.rec) ps

-- the control name of a question, where there is one
unfoldable pub control_name : Question → List Placed → Option (List ℕ)
control_name q ps =
    let name = map lower q.name in
    control_of (visible_to q ps) (name ∷ ancestors name)

-- "None: not ours, and no records." Rules out: the name's own records handed out.
unfoldable pub NamesWithoutControlAreNotOurs : Type 0
NamesWithoutControlAreNotOurs = (q : Question) (ps : List Placed) → control_name q ps ≡ None → answers q ps ≡ record { outcome = Outcome.NotOurs; list = [] }

-- "without, a delegation, and the call hands out that NS list as a referral, whatever the type"
-- Rules out: NS asked at the delegation answered as records; an address below it handed out.
unfoldable pub DelegationsRefer : Type 0
DelegationsRefer =
    (q : Question) (ps : List Placed) (control : List ℕ) → control_name q ps ≡ Some control → ordinary_of_type 6 control (visible_to q ps) ≡ []
    → answers q ps ≡ record { outcome = Outcome.Referral; list = ordinary_of_type 2 control (visible_to q ps) }

-- A list has records with two outcomes alone, a referral and records, and with these always.
abbrev pub has_records : Outcome → Bool
has_records Outcome.Refused = false
has_records Outcome.NotOurs = false
has_records Outcome.Referral = true
has_records Outcome.Records = true
has_records Outcome.NoSuchType = false
has_records Outcome.NoSuchName = false

-- Rules out: an empty referral; records handed out with outcome 1, 4 or 5.
unfoldable pub OutcomesFitLists : Type 0
OutcomesFitLists = (q : Question) (ps : List Placed) → is_full (answers q ps).list ≡ has_records (answers q ps).outcome

-- Each record of a referral is an ordinary NS record of the control name, whatever the type asked for.
pub record Refers (control : List ℕ) (q : Question) (ps : List Placed) : Type 0 where
  pub controls : control_name q ps ≡ Some control
  pub servers : T (all (λ p. ordinary_of control p.rec && of_type 2 p.rec) (answers q ps).list)

-- Rules out: a referral that hands out what else stands at the delegation, or below it.
unfoldable pub ReferralsAreNameServers : Type 0
ReferralsAreNameServers = (q : Question) (ps : List Placed) → (answers q ps).outcome ≡ Outcome.Referral → (control : List ℕ) × Refers control q ps

-- 01's list, whose search for a level ends at the root alone
unfoldable pub list_of01 : Question → List Placed → List Placed
list_of01 q ps =
    let name = map lower q.name in
    let seen = visible_to q ps in
    let level = first_full (keep (λ p. ordinary_of name p.rec) seen ∷ map (λ a. keep (λ p. wildcard_of a p.rec) seen) (ancestors name)) in
    keep (λ p. of_type q.type p.rec) level

-- Rules out: records of another level than 01's, or in another order.
unfoldable pub RecordsAreThoseOf01 : Type 0
RecordsAreThoseOf01 = (q : Question) (ps : List Placed) → (answers q ps).outcome ≡ Outcome.Records → (answers q ps).list ≡ list_of01 q ps

-- "no higher than the control name, that name's wildcards included": the ancestors up to and with it, and none where the control name itself is asked.
-- Rules out: an end below the control name, or one name too high.
unfoldable pub TheClimbEndsAtControl : Type 0
TheClimbEndsAtControl =
    (name control : List ℕ) (below above : List (List ℕ)) → ancestors name ≡ below ++ (control ∷ above) → ancestors_to control name ≡ below ++ (control ∷ [])

unfoldable pub TheControlNameClimbsNowhere : Type 0
TheControlNameClimbsNowhere = (name : List ℕ) → ancestors_to name name ≡ []
