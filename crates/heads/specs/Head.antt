-- A record before its data, with its sizes: what every writer of a resource record puts first.
use Rattle.std.specs.Prelude.{ℕ, ◌+◌, ◌-◌, Bool, true, false, List, ◌++◌, map, length}
use Rattle.rules.specs.declared.quantities.Lo.{Lo}
use Rattle.rules.specs.declared.quantities.Shared.{Shared}
use Rattle.rules.specs.Lists.{pick, lower, be, le}
use Rattle.rules.specs.Records.{lo_bytes}
use Rattle.rules.specs.Bytes.{wild, unstarred, flag_and_lo}

-- the key that an owner makes, and its size
unfoldable pub owner_key : List ℕ → List ℕ
owner_key owner = map lower (unstarred owner)

unfoldable pub key_size : List ℕ → ℕ
key_size owner = pick (wild owner) (length owner - 2) (length owner)

-- the flag: lo's bytes follow it
abbrev pub flag_of : Bool → Lo → ℕ
flag_of false Lo.Every = 61
flag_of false (Lo.Code a b) = 62
flag_of true Lo.Every = 42
flag_of true (Lo.Code a b) = 43

-- the fields before the record data, and their size
unfoldable pub fixed_fields : Shared → List ℕ → ℕ → List ℕ
fixed_fields shared owner type = be 2 type ++ flag_and_lo (wild owner) (lo_bytes shared.lo) ++ be 4 shared.ttl.0 ++ be 8 shared.time.0

unfoldable pub fixed_size : Lo → ℕ
fixed_size lo = 15 + length (lo_bytes lo)

-- all of a record before its data, which are n bytes, and its size
unfoldable pub head_of : Shared → List ℕ → ℕ → ℕ → List ℕ
head_of shared owner type n = le 4 (key_size owner) ++ le 4 (fixed_size shared.lo + n) ++ owner_key owner ++ fixed_fields shared owner type

unfoldable pub head_size : Shared → List ℕ → ℕ
head_size shared owner = 8 + key_size owner + fixed_size shared.lo
