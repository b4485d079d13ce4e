-- What the code answers of one record, or that it is none, and the record that it means.
use Rattle.std.specs.Prelude.{ℕ, ◌+◌, ◌*◌, Bool, ◌&&◌, ◌||◌, List, ◌∷◌, length, take, drop, get_or, leb, ltb, eqb, Option, Some, None}
use Rattle.rules.specs.declared.quantities.Lo.{Lo}
use Rattle.rules.specs.declared.quantities.Shared.{Shared}
use Rattle.rules.specs.Lists.{pick, from_be}
use Rattle.rules.specs.Fields.{largest_ttl}
use Rattle.rules.specs.Records.{Record, location, resource, lo_bytes}
use Rattle.rules.specs.Reading.{is_lo, moment_end}
use Rattle.judge.specs.declared.Seen.{Seen}

-- a wildcard's owner has the label `*` in front
unfoldable pub owner_of : Bool → List ℕ → List ℕ
owner_of wild key = pick wild (1 ∷ 42 ∷ key) key

-- the record that is meant: the prefix of a location stands behind two bytes of its key
unfoldable pub seen_record : List ℕ → List ℕ → Option Seen → Option Record
seen_record key rdata None = None
seen_record key rdata (Some (Seen.Location lo)) = Some (location (drop 2 key) (lo_bytes lo))
seen_record key rdata (Some (Seen.Resource wild type shared fixed)) =
    Some (resource (owner_of wild key) type (lo_bytes shared.lo) shared.ttl.0 shared.time.0 (drop fixed rdata))

-- where the record data begin
unfoldable pub fixed_in : Option Seen → ℕ
fixed_in None = 0
fixed_in (Some (Seen.Location lo)) = 0
fixed_in (Some (Seen.Resource wild type shared fixed)) = fixed

-- ttl and time behind lo, as rules' behind_lo reads them
unfoldable pub shared_in : Lo → List ℕ → Option Shared
shared_in lo rest =
    let ttl = from_be 0 (take 4 rest) in
    let time = from_be 0 (take 8 (drop 4 rest)) in
    pick (leb 12 (length rest) && leb ttl largest_ttl && ltb time moment_end) (Some (record { ttl = record { 0 = ttl }; time = record { 0 = time }; lo = lo })) None

unfoldable pub seen_with : Bool → ℕ → ℕ → Option Shared → Option Seen
seen_with wild type fixed None = None
seen_with wild type fixed (Some shared) = Some (Seen.Resource wild type shared fixed)

-- ---- by the flag, the third byte of the data

unfoldable pub wildcard_flag : ℕ → Bool
wildcard_flag flag = eqb flag 42 || eqb flag 43

unfoldable pub lo_in : List ℕ → Lo
lo_in rest = Lo.Code (get_or rest 0 0) (get_or rest 1 0)

-- lo stands behind the flag
unfoldable pub lo_flag : List ℕ → Option (Lo × ℕ)
lo_flag rdata = pick (is_lo (take 2 (drop 3 rdata))) (Some (lo_in (drop 3 rdata), 5)) None

unfoldable pub flag_by : ℕ → List ℕ → Option (Lo × ℕ)
flag_by flag rdata = pick (eqb flag 61 || eqb flag 42) (Some (Lo.Every, 3)) (pick (eqb flag 62 || eqb flag 43) (lo_flag rdata) None)

unfoldable pub flag_in : List ℕ → Option (Lo × ℕ)
flag_in rdata = flag_by (get_or rdata 2 0) rdata

-- ---- data with an owner's key that is not looked at

unfoldable pub seen_flag : Bool → ℕ → List ℕ → Option (Lo × ℕ) → Option Seen
seen_flag wild type rdata None = None
seen_flag wild type rdata (Some flag) = seen_with wild type (flag.1 + 12) (shared_in flag.0 (drop flag.1 rdata))

unfoldable pub seen_in : List ℕ → Option Seen
seen_in rdata = seen_flag (wildcard_flag (get_or rdata 2 0)) (get_or rdata 0 0 * 256 + get_or rdata 1 0) rdata (flag_in rdata)
