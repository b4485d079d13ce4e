-- 01, Lines and fields: lines, kinds, and the table of fields by kind.
use Rattle.std.specs.Prelude.{ℕ, Bool, ◌||◌, List, [], ◌∷◌, length, get_or, eqb}
use Rattle.rules.specs.declared.kinds.Kind.{Kind}
use Rattle.rules.specs.declared.kinds.Meaning.{Meaning}
use Rattle.rules.specs.Lists.{pick, onto_first}

-- "Lines end at byte 10 or at the end."
unfoldable pub lines_of : List ℕ → List (List ℕ)
lines_of [] = []
lines_of (b ∷ bs) = pick (eqb b 10) ([] ∷ lines_of bs) (onto_first b (lines_of bs))

-- "Then spaces and tabs at its end are dropped."
unfoldable pub blank : ℕ → Bool
blank b = eqb b 32 || eqb b 9

-- a byte in front of what is left of the bytes behind it
unfoldable pub before_stripped : ℕ → List ℕ → List ℕ
before_stripped b [] = pick (blank b) [] (b ∷ [])
before_stripped b (c ∷ cs) = b ∷ c ∷ cs

unfoldable pub strip : List ℕ → List ℕ
strip [] = []
strip (b ∷ bs) = before_stripped b (strip bs)

-- "a first byte `#` or `-`: ignored."
unfoldable pub ignored : ℕ → Bool
ignored b = eqb b 35 || eqb b 45

-- "The first byte is the kind."
unfoldable pub kind_of : ℕ → Kind
kind_of b =
    pick (eqb b 37) Kind.Location
    (pick (eqb b 46) Kind.Zone
    (pick (eqb b 38) Kind.Delegation
    (pick (eqb b 61) Kind.Host
    (pick (eqb b 43) Kind.Alias
    (pick (eqb b 64) Kind.Mail
    (pick (eqb b 83) Kind.Service
    (pick (eqb b 39) Kind.Text
    (pick (eqb b 94) Kind.Pointer
    (pick (eqb b 67) Kind.Canonical
    (pick (eqb b 90) Kind.Authority
    (pick (eqb b 58) Kind.Generic
    Kind.Unknown)))))))))))

-- the three fields that end every line but a location's
unfoldable pub common : List Meaning
common = Meaning.Ttl ∷ Meaning.Time ∷ Meaning.Lo ∷ []

-- the table: the meanings of a kind's fields, in order; an unknown kind has none
unfoldable pub meanings : Kind → List Meaning
unfolding common
meanings Kind.Location = Meaning.LocationLo ∷ Meaning.Prefix ∷ []
meanings Kind.Zone = Meaning.Owner ∷ Meaning.OptionalAddress ∷ Meaning.HostPart ∷ common
meanings Kind.Delegation = Meaning.Owner ∷ Meaning.OptionalAddress ∷ Meaning.HostPart ∷ common
meanings Kind.Host = Meaning.Owner ∷ Meaning.Address ∷ common
meanings Kind.Alias = Meaning.Owner ∷ Meaning.Address ∷ common
meanings Kind.Mail = Meaning.Owner ∷ Meaning.OptionalAddress ∷ Meaning.HostPart ∷ Meaning.Short ∷ common
meanings Kind.Service = Meaning.Owner ∷ Meaning.OptionalAddress ∷ Meaning.HostPart ∷ Meaning.Port ∷ Meaning.Short ∷ Meaning.Short ∷ common
meanings Kind.Text = Meaning.Owner ∷ Meaning.Text ∷ common
meanings Kind.Pointer = Meaning.Owner ∷ Meaning.Target ∷ common
meanings Kind.Canonical = Meaning.Owner ∷ Meaning.Target ∷ common
meanings Kind.Authority =
    Meaning.Owner ∷ Meaning.Target ∷ Meaning.Target ∷ Meaning.Long ∷ Meaning.Long ∷ Meaning.Long ∷ Meaning.Long ∷ Meaning.Long ∷ common
meanings Kind.Generic = Meaning.Owner ∷ Meaning.RecordType ∷ Meaning.Text ∷ common
meanings Kind.Unknown = []

unfoldable pub field_count : Kind → ℕ
field_count k = length (meanings k)

-- "Defaults, as a table by kind: ttl 259200 for `.` and `&`, 2560 for `Z`, 86400 for the others"; a location and an unknown kind have no ttl
unfoldable pub default_ttl : Kind → ℕ
default_ttl Kind.Location = 0
default_ttl Kind.Zone = 259200
default_ttl Kind.Delegation = 259200
default_ttl Kind.Host = 86400
default_ttl Kind.Alias = 86400
default_ttl Kind.Mail = 86400
default_ttl Kind.Service = 86400
default_ttl Kind.Text = 86400
default_ttl Kind.Pointer = 86400
default_ttl Kind.Canonical = 86400
default_ttl Kind.Authority = 2560
default_ttl Kind.Generic = 86400
default_ttl Kind.Unknown = 0

-- "fields missing at the end are empty": field i of a line, from 0
unfoldable pub field_at : List (List ℕ) → ℕ → List ℕ
field_at fields i = get_or fields i []
