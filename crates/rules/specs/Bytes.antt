-- 01, Bytes of a record.
use Rattle.std.specs.Prelude.{ℕ, ◌+◌, Bool, true, false, List, [], ◌∷◌, ◌++◌, map, length, drop}
use Rattle.rules.specs.Lists.{pick, begins_with, join_all, lower, be, le}
use Rattle.rules.specs.Records.{Record, location, resource}

-- "An owner whose first label is just `*` is a wildcard"
unfoldable pub wild : List ℕ → Bool
wild owner = begins_with (1 ∷ 42 ∷ []) owner

-- "that label is dropped"
unfoldable pub unstarred : List ℕ → List ℕ
unstarred owner = pick (wild owner) (drop 2 owner) owner

-- "Location: key is 0, `%`, then the prefix's bytes"; "Others: key is the owner on the wire, ASCII letters lowered"
unfoldable pub key_of : Record → List ℕ
key_of (location prefix lo) = 0 ∷ 37 ∷ prefix
key_of (resource owner type lo ttl time rdata) = map lower (unstarred owner)

-- "`=`, or `>` and lo's two bytes"; of a wildcard "`=` becomes `*`, `>` becomes `+`"
unfoldable pub flag_and_lo : Bool → List ℕ → List ℕ
flag_and_lo false [] = 61 ∷ []
flag_and_lo false (a ∷ lo) = 62 ∷ a ∷ lo
flag_and_lo true [] = 42 ∷ []
flag_and_lo true (a ∷ lo) = 43 ∷ a ∷ lo

-- the record data alone, and what stands before them in a record's data
unfoldable pub rdata_of : Record → List ℕ
rdata_of (location prefix lo) = lo
rdata_of (resource owner type lo ttl time rdata) = rdata

-- "Data: type (2 bytes, big-endian); [flag and lo]; ttl (4, big-endian); time (8, big-endian, zeros for none)"
unfoldable pub fixed_of : Record → List ℕ
fixed_of (location prefix lo) = []
fixed_of (resource owner type lo ttl time rdata) = be 2 type ++ flag_and_lo (wild owner) lo ++ be 4 ttl ++ be 8 time

unfoldable pub data_of : Record → List ℕ
data_of r = fixed_of r ++ rdata_of r

-- "Key length and data length, 4 bytes each, little-endian; key; data."
unfoldable pub encode : Record → List ℕ
encode r = le 4 (length (key_of r)) ++ le 4 (length (data_of r)) ++ key_of r ++ data_of r

-- "So a record takes 8 plus the key's length plus the data's."
unfoldable pub size : Record → ℕ
size r = 8 + length (key_of r) + length (data_of r)

unfoldable pub size_of_all : List Record → ℕ
size_of_all [] = 0
size_of_all (r ∷ rs) = size r + size_of_all rs

unfoldable pub bytes_of : List Record → List ℕ
bytes_of rs = join_all (map encode rs)
