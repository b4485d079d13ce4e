-- The laws of an authority line.
use mathlib.Core.Path.{◌≡◌, sym}
use mathlib.Core.Bool.{true}
use mathlib.Core.List.{List}
use Prim.Native.Nat.{ℕ, ◌+◌, ◌≤◌}
use native.Mathlib.Omega.{arith}
use lib.ListN.{length}
use Rattle.rules.specs.Kinds.{common, meanings, field_count, field_at}
use Rattle.rules.specs.Names.{name_of, wire_of}
use Rattle.rules.specs.Fields.{fault_of}
use Rattle.rules.specs.Records.{records_of, resource_of, shared_of, soa_data}
use Rattle.rules.specs.Bytes.{bytes_of, encode}
use Rattle.rules.specs.declared.kinds.Kind.{Kind}
use Rattle.rules.specs.declared.quantities.Shared.{Shared}
use Rattle.buffer.specs.Put.{IsPut}
use Rattle.names.specs.Views.{is_named}
use Rattle.soa.proofs.SoaData.{soa_length}
use Rattle.soa.specs.declared.soa.SoaNumbers.{SoaNumbers}
use Rattle.heads.specs.Head.{head_size}
use Rattle.values.specs.Ready.{Ready}
use Rattle.values.proofs.Readiness.{needed_named, done}
use Rattle.records.proofs.Sequence.{record_room, one}
use Rattle.authorities.specs.Numbers.{numbers_of}

module _ (fields : List (List ℕ)) (r : Ready Kind.Authority fields) where
  pub mname_named : is_named (name_of (field_at fields 1)) ≡ true
  unfolding meanings common fault_of
  mname_named = needed_named _ (done fields Kind.Authority r).1.0

  pub rname_named : is_named (name_of (field_at fields 2)) ≡ true
  unfolding meanings common fault_of
  rname_named = needed_named _ (done fields Kind.Authority r).1.1.0

pub authority_fields : 3 ≤ field_count Kind.Authority
unfolding field_count meanings common
authority_fields = omega arith

abbrev soa_of : List ℕ → List ℕ → SoaNumbers → List ℕ
soa_of mname rname n = soa_data mname rname n.serial n.refresh n.retry n.expire n.minimum

module _ (serial : ℕ) (fields : List (List ℕ)) (shared : Shared) (owner mname rname : List ℕ) (numbers : SoaNumbers)
    (a : shared ≡ shared_of Kind.Authority fields) (b : owner ≡ wire_of (field_at fields 0)) (m : mname ≡ wire_of (field_at fields 1)) (k : rname ≡ wire_of (field_at fields 2))
    (f : numbers ≡ numbers_of serial fields) where
  authority_is : encode (resource_of shared owner 6 (soa_of mname rname numbers)) ≡ bytes_of (records_of serial Kind.Authority fields)
  unfolding records_of
  authority_is = rw (a, b, m, k, f) (sym (one _))

  pub authority_room : (n : ℕ) → length (bytes_of (records_of serial Kind.Authority fields)) ≤ n → head_size shared owner + (20 + length mname + length rname) ≤ n
  authority_room n h =
      omega (arith, record_room shared _ 6 _ _ n authority_is h, soa_length mname rname numbers.serial numbers.refresh numbers.retry numbers.expire numbers.minimum)

  pub authority_put : (d e : List ℕ) (r : ℕ) → IsPut (encode (resource_of shared owner 6 (soa_of mname rname numbers))) d e r → IsPut (bytes_of (records_of serial Kind.Authority fields)) d e r
  authority_put d e r p = rw (← authority_is) p
