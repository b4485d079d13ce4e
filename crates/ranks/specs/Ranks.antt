-- The level and the control name of a question by numbers: the rank of each record, and the records of the largest rank.
use Rattle.std.specs.Prelude.{ℕ, ◌-◌, max, Bool, false, not, ◌&&◌, ◌||◌, List, [], ◌∷◌, length, drop, eqb, Option, Some, None}
use Rattle.rules.specs.Lists.{pick, keep, same_bytes}
use Rattle.rules.specs.Records.{Record}
use Rattle.rules.specs.Questions.{visible, ordinary_of, wildcard_of, ancestors, of_type}
use Rattle.ranks.specs.declared.Role.{Role}

-- of a wildcard record: the length of the first of these names that it is a wildcard of, or 0
unfoldable pub rank_among : List (List ℕ) → Record → ℕ
rank_among [] r = 0
rank_among (a ∷ names) r = pick (wildcard_of a r) (length a) (rank_among names r)

-- more than any length for an ordinary record of the name; no ancestor is as long
unfoldable pub rank_of : List ℕ → Record → ℕ
rank_of name r = pick (ordinary_of name r) 256 (rank_among (ancestors name) r)

-- W8: the length of the first of these names that a record is an ordinary one of, with this type; or 0
unfoldable pub control_among : ℕ → List (List ℕ) → Record → ℕ
control_among type [] r = 0
control_among type (n ∷ names) r = pick (ordinary_of n r && of_type type r) (length n) (control_among type names r)

unfoldable pub control_rank : ℕ → List ℕ → Record → ℕ
control_rank type name r = control_among type (name ∷ ancestors name) r

-- the rank of a record by what it is looked at for
unfoldable pub role_rank : Role → List ℕ → Record → ℕ
role_rank Role.Level name r = rank_of name r
role_rank Role.Control name r = control_rank 2 name r
role_rank Role.Zone name r = control_rank 6 name r

module _ {A : Type 0} where
  unfoldable pub largest : (A → ℕ) → List A → ℕ
  largest f [] = 0
  largest f (x ∷ xs) = max (f x) (largest f xs)

  -- those of the largest number, or nothing if that is 0
  unfoldable pub chosen : (A → ℕ) → List A → List A
  chosen f xs = pick (eqb (largest f xs) 0) [] (keep (λ x. eqb (f x) (largest f xs)) xs)

-- ---- as the code finds it, from the key alone

unfoldable pub among : List ℕ → List (List ℕ) → Bool
among key [] = false
among key (a ∷ names) = same_bytes key a || among key names

-- whether a name ends in a key; so it does in those that can answer for it
unfoldable pub ends_in : List ℕ → List ℕ → Bool
ends_in name key = same_bytes key (drop (length name - length key) name)

unfoldable pub key_rank : List ℕ → List ℕ → Bool → ℕ
key_rank name key wild = pick wild (pick (among key (ancestors name)) (length key) 0) (pick (same_bytes key name) 256 0)

unfoldable pub typed_rank : ℕ → List ℕ → List ℕ → Bool → ℕ → ℕ
typed_rank wanted name key wild type = pick (not wild && eqb wanted type) (pick (same_bytes key name || among key (ancestors name)) (length key) 0) 0

unfoldable pub role_key_rank : Role → List ℕ → List ℕ → Bool → ℕ → ℕ
role_key_rank Role.Level name key wild type = key_rank name key wild
role_key_rank Role.Control name key wild type = typed_rank 2 name key wild type
role_key_rank Role.Zone name key wild type = typed_rank 6 name key wild type

-- the rank of a record that is seen, and 0 for one that isn't
unfoldable pub seen_rank : Role → List ℕ → List ℕ → ℕ → Record → ℕ
seen_rank role name here moment r = pick (visible here moment r) (role_rank role name r) 0

unfoldable pub rank_in : Role → List ℕ → List ℕ → ℕ → Option Record → ℕ
rank_in role name here moment None = 0
rank_in role name here moment (Some r) = seen_rank role name here moment r
