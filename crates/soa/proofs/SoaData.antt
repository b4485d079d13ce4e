-- How the data of an SOA record are laid out, and their size.
use mathlib.Core.Path.{◌≡◌}
use mathlib.Core.List.{List, ◌++◌, append_assoc}
use Prim.Native.Nat.{ℕ, ◌+◌}
use native.Mathlib.Omega.{arith}
use lib.ListN.{length, length-append}
use Rattle.rules.specs.Lists.{be}
use Rattle.rules.specs.Records.{soa_data}
use Rattle.wire.proofs.Numbers.{length_be}

module _ (mname rname : List ℕ) (serial refresh retry expire minimum : ℕ) where
  pub soa_length : 20 + length mname + length rname ≡ length (soa_data mname rname serial refresh retry expire minimum)
  unfolding soa_data
  soa_length = simp (length-append, length_be) (omega arith)

  pub soa_is : mname ++ rname ++ (be 4 serial ++ be 4 refresh ++ be 4 retry ++ be 4 expire ++ be 4 minimum)
      ≡ soa_data mname rname serial refresh retry expire minimum
  unfolding soa_data
  soa_is = simp append_assoc
