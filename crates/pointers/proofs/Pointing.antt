-- The laws of the lines whose data are a name.
use mathlib.Core.Path.{◌≡◌, refl, sym}
use mathlib.Core.List.{List}
use Prim.Native.Nat.{ℕ, ◌+◌, ◌≤◌}
use native.Mathlib.Omega.{arith}
use lib.ListN.{length}
use Rattle.rules.specs.Kinds.{common, meanings, field_count, field_at}
use Rattle.rules.specs.Names.{wire_of}
use Rattle.rules.specs.Fields.{fault_of}
use Rattle.rules.specs.Records.{records_of, resource_of, shared_of}
use Rattle.rules.specs.Bytes.{bytes_of, encode}
use Rattle.rules.specs.declared.kinds.Kind.{Kind}
use Rattle.rules.specs.declared.quantities.Shared.{Shared}
use Rattle.buffer.specs.Put.{IsPut}
use Rattle.heads.specs.Head.{head_size}
use Rattle.values.specs.Ready.{Ready}
use Rattle.pointers.specs.Targets.{Points}
use Rattle.values.proofs.Readiness.{needed_named, done}
use Rattle.records.proofs.Sequence.{record_room, one}

module _ (fields : List (List ℕ)) (kind : Kind) (shared : Shared) (owner target : List ℕ) (type : ℕ) (p : Points kind fields type)
    (a : shared ≡ shared_of kind fields) (b : owner ≡ wire_of (field_at fields 0)) (t : target ≡ wire_of (field_at fields 1)) where
  target_is : encode (resource_of shared owner type target) ≡ bytes_of (records_of 0 kind fields)
  target_is = rw (a, b, t, p.says) (sym (one _))

  pub target_room : (n : ℕ) → length (bytes_of (records_of 0 kind fields)) ≤ n → head_size shared owner + length target ≤ n
  target_room n h = record_room shared _ type _ _ n target_is h

  pub target_put : (d e : List ℕ) (r : ℕ) → IsPut (encode (resource_of shared owner type target)) d e r → IsPut (bytes_of (records_of 0 kind fields)) d e r
  target_put d e r q = rw (← target_is) q

module _ (fields : List (List ℕ)) where
  pub pointer_points : Ready Kind.Pointer fields → Points Kind.Pointer fields 12
  unfolding field_count meanings common fault_of records_of
  pointer_points r = record { count = omega arith; named = needed_named _ (done fields Kind.Pointer r).1.0; says = refl }

  pub canonical_points : Ready Kind.Canonical fields → Points Kind.Canonical fields 5
  unfolding field_count meanings common fault_of records_of
  canonical_points r = record { count = omega arith; named = needed_named _ (done fields Kind.Canonical r).1.0; says = refl }
