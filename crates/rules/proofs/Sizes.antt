-- How many bytes the records of a good line take at most.
use mathlib.Core.Path.{◌≡◌}
use Prim.Native.Nat.{ℕ, ◌*◌, ◌≤◌}
use native.Mathlib.Omega.{arith}
use mathlib.Core.Bool.{true}
use mathlib.Core.List.{List, [], ◌∷◌, ◌++◌}
use lib.ListN.{length, length-append}
use lib.Dec.{T}
use Rattle.rules.specs.declared.kinds.Kind.{Kind}
use Rattle.rules.specs.declared.quantities.Shared.{Shared}
use Rattle.rules.specs.Lists.{split_on}
use Rattle.rules.specs.Kinds.{strip, ignored, kind_of}
use Rattle.rules.specs.Records.{Record, address_records, records_of}
use Rattle.rules.specs.Bytes.{size, size_of_all, bytes_of}
use Rattle.rules.specs.Answers.{is_good, stripped_records, line_records}
use Rattle.rules.proofs.Tests.{pick_ok}
use Rattle.rules.proofs.Lists.{All, nil, cons}
use Rattle.rules.proofs.Records.{Ok, line_ok}
use Rattle.rules.proofs.Decoding.{key_short, data_short}
use Rattle.rules.proofs.Meaning.{length_bytes}

-- ---- a line has at most three records

unfoldable AtMost : ℕ → List Record → Type 0
AtMost n rs = length rs ≤ n

one_address : (s : Shared) (owner a : List ℕ) → AtMost 1 (address_records s owner a)
unfolding AtMost address_records
one_address s owner [] = omega arith
one_address s owner (b ∷ a) = omega arith

module _ (rs : List Record) (h : AtMost 1 rs) where
  alone : AtMost 3 rs
  unfolding AtMost
  alone = omega arith

  behind : (r : Record) → AtMost 3 (r ∷ rs)
  unfolding AtMost
  behind r = omega arith

  behind_two : (q r : Record) → AtMost 3 (q ∷ r ∷ rs)
  unfolding AtMost
  behind_two q r = omega arith

  before : (r : Record) → AtMost 3 (rs ++ r ∷ [])
  unfolding AtMost
  before r = simp length-append (omega arith)

none : AtMost 3 []
unfolding AtMost
none = omega arith

one : (r : Record) → AtMost 3 (r ∷ [])
unfolding AtMost
one r = omega arith

few_of : (serial : ℕ) (k : Kind) (fields : List (List ℕ)) → AtMost 3 (records_of serial k fields)
unfolding records_of
few_of serial Kind.Location fields = one _
few_of serial Kind.Zone fields = behind_two _ (one_address _ _ _) _ _
few_of serial Kind.Delegation fields = behind _ (one_address _ _ _) _
few_of serial Kind.Host fields = before (address_records _ _ _) (one_address _ _ _) _
few_of serial Kind.Alias fields = alone _ (one_address _ _ _)
few_of serial Kind.Mail fields = behind _ (one_address _ _ _) _
few_of serial Kind.Service fields = behind _ (one_address _ _ _) _
few_of serial Kind.Text fields = one _
few_of serial Kind.Pointer fields = one _
few_of serial Kind.Canonical fields = one _
few_of serial Kind.Authority fields = one _
few_of serial Kind.Generic fields = one _
few_of serial Kind.Unknown fields = none

few_stripped : (serial : ℕ) (l : List ℕ) → AtMost 3 (stripped_records serial l)
unfolding stripped_records
few_stripped serial [] = none
few_stripped serial (k ∷ rest) = pick_ok (AtMost 3) (ignored k) (λ t. none) (λ t. few_of serial (kind_of k) (split_on 58 rest))

pub few_records : (serial : ℕ) (l : List ℕ) → length (line_records serial l) ≤ 3
unfolding line_records AtMost
few_records serial l = few_stripped serial (strip l)

-- ---- each takes at most 8 + 255 + 5000 bytes

size_short : {rs : List Record} → All Ok rs → size_of_all rs ≤ length rs * 5263
unfolding size_of_all size
size_short nil = omega arith
size_short (cons {x = r} ok a) = omega (arith, key_short r ok, data_short r ok, size_short a)

pub line_size : (serial : ℕ) (l : List ℕ) → is_good l ≡ true → size_of_all (line_records serial l) ≤ 16384
line_size serial l g =
    let t : T (is_good l) = rw g tt in
    omega (arith, few_records serial l, size_short (line_ok serial l t))

pub line_short : (serial : ℕ) (l : List ℕ) → is_good l ≡ true → length (bytes_of (line_records serial l)) ≤ 16384
line_short serial l g = omega (arith, length_bytes (line_records serial l), line_size serial l g)
