-- A whole record is its head and its data, and the sizes of both.
use mathlib.Core.Path.{◌≡◌, refl, ap, ◌∙◌, sym}
use mathlib.Core.Bool.{Bool, true, false}
use mathlib.Core.List.{List, [], ◌∷◌, ◌++◌, append_assoc}
use Prim.Native.Nat.{ℕ, ◌+◌, ◌-◌}
use native.Mathlib.Omega.{arith}
use lib.ListN.{length, drop, length-append, length-map, length-drop}
use Rattle.rules.specs.declared.quantities.Lo.{Lo}
use Rattle.rules.specs.declared.quantities.Shared.{Shared}
use Rattle.rules.specs.Lists.{pick, lower, le}
use Rattle.rules.specs.Records.{Record, location, lo_bytes, resource_of}
use Rattle.rules.specs.Bytes.{wild, unstarred, key_of, flag_and_lo, rdata_of, fixed_of, data_of, encode, size}
use Rattle.wire.proofs.Numbers.{length_le, length_be}
use Rattle.heads.specs.Head.{owner_key, key_size, fixed_fields, fixed_size, head_of, head_size}

-- "So a record takes 8 plus the key's length plus the data's."
pub encode_length : (r : Record) → length (encode r) ≡ size r
unfolding encode size
encode_length r = simp (length-append, length_le) (omega arith)

pub key_length_lem : (owner : List ℕ) → length (owner_key owner) ≡ key_size owner
unfolding owner_key key_size unstarred pick
key_length_lem owner = length-map (pick (wild owner) (drop 2 owner) owner) lower ∙ go (wild owner)
  where
    go : (w : Bool) → length (pick w (drop 2 owner) owner) ≡ pick w (length owner - 2) (length owner)
    go true = length-drop 2 owner
    go false = refl

flag_length : (w : Bool) (lo : List ℕ) → length (flag_and_lo w lo) ≡ 1 + length lo
unfolding flag_and_lo
flag_length false [] = refl
flag_length false (a ∷ lo) = omega arith
flag_length true [] = refl
flag_length true (a ∷ lo) = omega arith

pub fixed_length : (shared : Shared) (owner : List ℕ) (type : ℕ) → length (fixed_fields shared owner type) ≡ fixed_size shared.lo
unfolding fixed_fields fixed_size
fixed_length shared owner type = simp (length-append, length_be, flag_length) (omega arith)

pub head_length : (shared : Shared) (owner : List ℕ) (type n : ℕ) → length (head_of shared owner type n) ≡ head_size shared owner
unfolding head_of head_size
head_length shared owner type n = simp (length-append, length_le, key_length_lem, fixed_length) (omega arith)

-- a resource record is its head and then its data
module _ (shared : Shared) (owner : List ℕ) (type : ℕ) where
  pub record_is : (n : ℕ) (rdata : List ℕ) → n ≡ length rdata → head_of shared owner type n ++ rdata ≡ encode (resource_of shared owner type rdata)
  unfolding head_of encode resource_of key_of data_of fixed_of rdata_of owner_key fixed_fields
  record_is n rdata e =
      let k : length (owner_key owner) ≡ key_size owner = key_length_lem owner in
      let f : length (fixed_fields shared owner type ++ rdata) ≡ fixed_size shared.lo + n =
      length-append (fixed_fields shared owner type) rdata ∙ (rw (fixed_length shared owner type, e)) in
      rw (k, f) (append_assoc (le 4 (key_size owner) ++ le 4 (fixed_size shared.lo + n) ++ owner_key owner) (fixed_fields shared owner type) rdata)

  pub resource_size : (n : ℕ) (rdata : List ℕ) → n ≡ length rdata → size (resource_of shared owner type rdata) ≡ head_size shared owner + n
  resource_size n rdata e =
      sym (encode_length (resource_of shared owner type rdata))
      ∙ ap length (sym (record_is n rdata e))
      ∙ length-append (head_of shared owner type n) rdata
      ∙ rw (head_length shared owner type n, e)

pub location_is : (prefix : List ℕ) (lo : Lo) (l : ℕ) → l ≡ length (lo_bytes lo)
    → le 4 (2 + length prefix) ++ le 4 l ++ (0 ∷ 37 ∷ prefix) ++ lo_bytes lo ≡ encode (location prefix (lo_bytes lo))
unfolding encode key_of data_of fixed_of rdata_of
location_is prefix lo l e =
    let k : length (0 ∷ 37 ∷ prefix) ≡ 2 + length prefix = omega arith in
    rw (k, e)

pub location_size : (prefix : List ℕ) (lo : Lo) → size (location prefix (lo_bytes lo)) ≡ 10 + length prefix + length (lo_bytes lo)
unfolding size key_of data_of fixed_of rdata_of
location_size prefix lo = omega arith
