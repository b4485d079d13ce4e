-- The laws of records written one behind the other.
use mathlib.Core.Path.{◌≡◌, refl, ap}
use mathlib.Core.List.{List, [], ◌∷◌, ◌++◌, append-nil}
use Prim.Native.Nat.{ℕ, ◌+◌, ◌≤◌}
use native.Mathlib.Omega.{arith}
use borrow.Author.Rules.{rules}
use lib.ListN.{length, length-append}
use Rattle.rules.specs.Lists.{join_all}
use Rattle.rules.specs.Records.{Record, resource_of}
use Rattle.rules.specs.Bytes.{encode, bytes_of}
use Rattle.rules.specs.declared.quantities.Shared.{Shared}
use Rattle.wire.proofs.Parts.{lent_at, back_at, front_count}
use Rattle.buffer.specs.Put.{IsPut}
use Rattle.buffer.proofs.Puts.{behind_length, within, then}
use Rattle.heads.specs.Head.{head_size}
use Rattle.heads.proofs.Whole.{encode_length, resource_size}

bytes_cons : (r : Record) (rs : List Record) → bytes_of (r ∷ rs) ≡ encode r ++ bytes_of rs
unfolding bytes_of join_all
bytes_cons r rs = refl

-- a record behind which others are to stand
module _ (r : Record) (rs : List Record) (d e : List ℕ) (a : ℕ) (room : length (bytes_of (r ∷ rs)) ≤ length d) (p : IsPut (encode r) d e a) where
  pub rest_fits : length (bytes_of rs) ≤ length (lent_at a e)
  rest_fits = omega (arith, behind_length (encode r) d e a p, p.count, ap length (bytes_cons r rs), length-append (encode r) (bytes_of rs))

  pub rest_starts : a ≤ length e
  rest_starts = within (encode r) d e a p

  pub rest_put : (f : List ℕ) (k : ℕ) → IsPut (bytes_of rs) (lent_at a e) f k → IsPut (bytes_of (r ∷ rs)) d (back_at a e f) (a + k)
  rest_put f k q = rw (bytes_cons r rs) (then (encode r) d e a p (bytes_of rs) f k q)

-- a record alone
pub one : (r : Record) → bytes_of (r ∷ []) ≡ encode r
unfolding bytes_of join_all
one r = append-nil (encode r)

pub only : (r : Record) (d e : List ℕ) (a : ℕ) → IsPut (encode r) d e a → IsPut (bytes_of (r ∷ [])) d e a
only r d e a p = rw (one r) p

-- room for the bytes of a record is room for its head and its data
pub record_room : (shared : Shared) (owner : List ℕ) (type : ℕ) (rdata x : List ℕ) (n : ℕ) → encode (resource_of shared owner type rdata) ≡ x → length x ≤ n
    → head_size shared owner + length rdata ≤ n
record_room shared owner type rdata x n e h =
    omega (arith, ap length e, encode_length (resource_of shared owner type rdata), resource_size shared owner type (length rdata) rdata refl)

-- the same records, said otherwise
module _ (read said : List Record) (e : read ≡ said) where
  pub room_of : (n : ℕ) → length (bytes_of said) ≤ n → length (bytes_of read) ≤ n
  room_of n h = rw e h

  pub put_of : (d f : List ℕ) (r : ℕ) → IsPut (bytes_of read) d f r → IsPut (bytes_of said) d f r
  put_of d f r q = rw e at q

-- room for records is room for the first
module _ (shared : Shared) (owner : List ℕ) (type : ℕ) (rs : List Record) (n : ℕ) where
  pub first_fits : (rdata : List ℕ) → length (bytes_of (resource_of shared owner type rdata ∷ rs)) ≤ n → head_size shared owner + length rdata ≤ n
  first_fits rdata h =
      omega (arith, ap length (bytes_cons (resource_of shared owner type rdata) rs), length-append (encode (resource_of shared owner type rdata)) (bytes_of rs), encode_length (resource_of shared owner type rdata), resource_size shared owner type (length rdata) rdata refl)

pub ruleset sequence_laws = (rules, front_count, rest_fits, rest_starts, rest_put, first_fits)
