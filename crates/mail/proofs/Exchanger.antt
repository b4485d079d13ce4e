-- The data of an MX record are in two parts.
use mathlib.Core.Path.{◌≡◌, ◌∙◌}
use mathlib.Core.List.{List, ◌++◌, append_assoc}
use Prim.Native.Nat.{ℕ, ◌+◌}
use lib.ListN.{length, length-append}
use Rattle.rules.specs.declared.quantities.Shared.{Shared}
use Rattle.rules.specs.Lists.{be}
use Rattle.rules.specs.Records.{resource_of}
use Rattle.rules.specs.Bytes.{encode}
use Rattle.wire.proofs.Numbers.{length_be}
use Rattle.heads.specs.Head.{head_of}
use Rattle.heads.proofs.Whole.{record_is}

-- the data of an MX record are in two parts
pub mx_length : (dist : ℕ) (host : List ℕ) → 2 + length host ≡ length (be 2 dist ++ host)
mx_length dist host = simp (length-append, length_be)

pub mx_is : (shared : Shared) (owner : List ℕ) (dist : ℕ) (host : List ℕ)
    → head_of shared owner 15 (2 + length host) ++ be 2 dist ++ host ≡ encode (resource_of shared owner 15 (be 2 dist ++ host))
mx_is shared owner dist host =
    append_assoc (head_of shared owner 15 (2 + length host)) (be 2 dist) host ∙ record_is shared owner 15 (2 + length host) (be 2 dist ++ host) (mx_length dist host)
