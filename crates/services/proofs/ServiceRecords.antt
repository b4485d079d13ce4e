-- The laws of services.
use mathlib.Core.Path.{◌≡◌, refl, ◌∙◌}
use mathlib.Core.List.{List, [], ◌∷◌}
use Prim.Native.Nat.{ℕ, ◌+◌, ◌≤◌}
use native.Mathlib.Omega.{arith}
use lib.ListN.{length, length-append}
use Rattle.rules.specs.Records.{srv, short_at, resource_of, srv_data, address_records, records_of}
use Rattle.rules.specs.Bytes.{bytes_of}
use Rattle.rules.specs.declared.kinds.Kind.{Kind}
use Rattle.rules.specs.declared.quantities.Port.{Port}
use Rattle.rules.specs.declared.quantities.Priority.{Priority}
use Rattle.rules.specs.declared.quantities.Weight.{Weight}
use Rattle.rules.proofs.Numbers.{length_be}
use Rattle.buffer.specs.Put.{IsPut}
use Rattle.hosts.specs.HostLines.{middle_of, IsHostLine}
use Rattle.hosts.specs.declared.hosts.HostLine.{HostLine}
use Rattle.services.specs.ServiceLines.{service_records}
use Rattle.hosts.proofs.HostRecords.{same_read}

module _ (port priority weight : ℕ) (fields : List (List ℕ)) (h : HostLine) (p : IsHostLine Kind.Service fields h)
    (a : port ≡ short_at fields 3) (b : priority ≡ short_at fields 4) (c : weight ≡ short_at fields 5) where
  service_is : service_records h (record { 0 = priority }) (record { 0 = weight }) (record { 0 = port }) ≡ records_of 0 Kind.Service fields
  unfolding records_of middle_of srv_data
  service_is =
      same_read Kind.Service fields h p (λ shared owner host address. resource_of shared owner 33 (srv_data (record { 0 = priority }) (record { 0 = weight }) (record { 0 = port }) host) ∷ address_records shared host address)
      ∙ rw (a, b, c)

  pub service_room : (n : ℕ) → length (bytes_of (records_of 0 Kind.Service fields)) ≤ n
      → length (bytes_of (service_records h (record { 0 = priority }) (record { 0 = weight }) (record { 0 = port }))) ≤ n
  service_room n k = rw service_is k

  pub service_put : (d f : List ℕ) (r : ℕ) → IsPut (bytes_of (service_records h (record { 0 = priority }) (record { 0 = weight }) (record { 0 = port }))) d f r
      → IsPut (bytes_of (records_of 0 Kind.Service fields)) d f r
  service_put d f r q = rw service_is at q

pub srv_label : ◌≡◌ {A = List ℕ} (115 ∷ 114 ∷ 118 ∷ []) (middle_of Kind.Service)
unfolding middle_of srv
srv_label = refl

-- three numbers and the host are the data
pub srv_size : (priority : Priority) (weight : Weight) (port : Port) (host : List ℕ) (n m : ℕ) → n + length (srv_data priority weight port host) ≤ m → n + (6 + length host) ≤ m
unfolding srv_data
srv_size priority weight port host n m h =
    let l : length (srv_data priority weight port host) ≡ 6 + length host = simp (length-append, length_be) (omega arith) in
    omega (arith, l)
