-- The laws of mail.
use mathlib.Core.Path.{◌≡◌, refl, ◌∙◌}
use mathlib.Core.List.{List, [], ◌∷◌, ◌++◌}
use Prim.Native.Nat.{ℕ, ◌+◌, ◌≤◌}
use native.Mathlib.Omega.{arith}
use lib.ListN.{length, length-append}
use Rattle.rules.specs.Lists.{be}
use Rattle.rules.specs.Records.{mx, short_at, resource_of, address_records, records_of}
use Rattle.rules.specs.Bytes.{bytes_of}
use Rattle.rules.specs.declared.kinds.Kind.{Kind}
use Rattle.rules.proofs.Numbers.{length_be}
use Rattle.buffer.specs.Put.{IsPut}
use Rattle.hosts.specs.HostLines.{middle_of, IsHostLine, host_records}
use Rattle.hosts.specs.declared.hosts.HostLine.{HostLine}
use Rattle.hosts.proofs.HostRecords.{same_read}

module _ (dist : ℕ) (fields : List (List ℕ)) (h : HostLine) (p : IsHostLine Kind.Mail fields h) (e : dist ≡ short_at fields 3) where
  mail_is : host_records h 15 (be 2 dist) ≡ records_of 0 Kind.Mail fields
  unfolding records_of middle_of
  mail_is =
      same_read Kind.Mail fields h p (λ shared owner host address. resource_of shared owner 15 (be 2 dist ++ host) ∷ address_records shared host address) ∙ rw e

  pub mail_room : (n : ℕ) → length (bytes_of (records_of 0 Kind.Mail fields)) ≤ n → length (bytes_of (host_records h 15 (be 2 dist))) ≤ n
  mail_room n k = rw mail_is k

  pub mail_put : (d f : List ℕ) (r : ℕ) → IsPut (bytes_of (host_records h 15 (be 2 dist))) d f r → IsPut (bytes_of (records_of 0 Kind.Mail fields)) d f r
  mail_put d f r q = rw mail_is at q

pub mx_label : ◌≡◌ {A = List ℕ} (109 ∷ 120 ∷ []) (middle_of Kind.Mail)
unfolding middle_of mx
mx_label = refl

-- the distance and the host are the data
pub mx_size : (dist : ℕ) (host : List ℕ) (n m : ℕ) → n + length (be 2 dist ++ host) ≤ m → n + (2 + length host) ≤ m
mx_size dist host n m h = omega (arith, h, length-append (be 2 dist) host, length_be 2 dist)
