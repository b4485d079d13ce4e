-- The laws of zones and delegations.
use mathlib.Core.Path.{◌≡◌, refl}
use mathlib.Core.List.{List, [], ◌∷◌, ◌++◌}
use Prim.Native.Nat.{ℕ, ◌+◌, ◌≤◌}
use native.Mathlib.Omega.{arith}
use borrow.Author.Rules.{rules}
use borrow.Author.Tests.{eq-eqb, ne_eqb}
use lib.ListN.{length}
use Rattle.rules.specs.Lists.{pick}
use Rattle.rules.specs.Records.{ns, resource_of, contact_of, joined_names, soa_data, soa_shared, address_records, records_of}
use Rattle.rules.specs.Bytes.{encode, bytes_of}
use Rattle.rules.specs.declared.kinds.Kind.{Kind}
use Rattle.rules.specs.declared.quantities.Shared.{Shared}
use Rattle.rules.proofs.Lists.{all_head, all_tail}
use Rattle.rules.proofs.GoodLines.{kind_done}
use Rattle.soa.proofs.SoaData.{soa_length}
use Rattle.buffer.specs.Put.{IsPut}
use Rattle.wire.proofs.Parts.{lent_at, back_at}
use Rattle.heads.specs.Head.{head_size}
use Rattle.values.specs.Ready.{Ready}
use Rattle.hosts.specs.HostLines.{middle_of, IsHostLine, host_records}
use Rattle.hosts.specs.declared.hosts.HostLine.{HostLine}
use Rattle.zones.specs.ZoneLines.{soa_record, zone_records}
use Rattle.hosts.proofs.HostRecords.{same_read}
use Rattle.records.proofs.Sequence.{rest_fits, rest_starts, rest_put, first_fits, room_of, put_of}

pub delegation_is : (fields : List (List ℕ)) (h : HostLine) → IsHostLine Kind.Delegation fields h → host_records h 2 [] ≡ records_of 0 Kind.Delegation fields
unfolding records_of middle_of
delegation_is fields h p = same_read Kind.Delegation fields h p (λ shared owner host address. resource_of shared owner 2 ([] ++ host) ∷ address_records shared host address)

pub zone_is : (serial : ℕ) (fields : List (List ℕ)) (h : HostLine) → IsHostLine Kind.Zone fields h → zone_records serial h ≡ records_of serial Kind.Zone fields
unfolding records_of middle_of
zone_is serial fields h p =
    same_read Kind.Zone fields h p
    (λ shared owner host address. resource_of (soa_shared shared) owner 6 (soa_data host (contact_of owner) serial 16384 2048 1048576 2560) ∷ resource_of shared owner 2 ([] ++ host) ∷ address_records shared host address)

pub ns_label : ◌≡◌ {A = List ℕ} (110 ∷ 115 ∷ []) (middle_of Kind.Delegation)
unfolding middle_of ns
ns_label = refl

pub zone_label : ◌≡◌ {A = List ℕ} (110 ∷ 115 ∷ []) (middle_of Kind.Zone)
unfolding middle_of ns
zone_label = refl

pub ruleset delegation_laws = (rules, room_of, put_of, delegation_is)

-- a contact of a zone without a fault is a name
pub contact_short : (fields : List (List ℕ)) (h : HostLine) → Ready Kind.Zone fields → IsHostLine Kind.Zone fields h → length (contact_of h.owner) ≤ 255
unfolding joined_names
contact_short fields h r p = rw p.owner (all_head (all_tail (kind_done Kind.Zone fields r.good).1))

-- ---- a zone

pub ending : (shared : Shared) (ttl : ℕ) → shared.ttl.0 ≡ 0 → ttl ≡ 0 → record { ttl = record { 0 = ttl }; time = shared.time; lo = shared.lo } ≡ soa_shared shared
unfolding soa_shared pick
ending shared ttl e q = rw (eq-eqb _ _ e, q)

pub lasting : (shared : Shared) (ttl : ℕ) → (shared.ttl.0 ≡ 0 → ⊥) → ttl ≡ 2560 → record { ttl = record { 0 = ttl }; time = shared.time; lo = shared.lo } ≡ soa_shared shared
unfolding soa_shared pick
lasting shared ttl e q = rw (ne_eqb _ _ e, q)

-- the SOA, of a name and a contact that are lent
module _ (serial : ℕ) (h : HostLine) (shared : Shared) (owner host contact : List ℕ) (e : shared ≡ soa_shared h.shared) (o : owner ≡ h.owner) (n : host ≡ h.host) (c : contact ≡ contact_of h.owner) where
  soa_is : resource_of shared owner 6 (soa_data host contact serial 16384 2048 1048576 2560) ≡ soa_record serial h
  soa_is = rw (e, o, n, c)

  pub authority_put : (d f : List ℕ) (r : ℕ) → IsPut (encode (resource_of shared owner 6 (soa_data host contact serial 16384 2048 1048576 2560))) d f r → IsPut (encode (soa_record serial h)) d f r
  authority_put d f r q = rw (← soa_is) q

  pub authority_room : (m : ℕ) → length (bytes_of (zone_records serial h)) ≤ m → head_size shared owner + (20 + length host + length contact) ≤ m
  authority_room m k =
      let f = first_fits shared owner 6 (host_records h 2 []) m (soa_data host contact serial 16384 2048 1048576 2560) (rw soa_is k) in
      omega (arith, f, soa_length host contact serial 16384 2048 1048576 2560)

-- the name server behind the SOA
pub zone_put : (serial : ℕ) (fields : List (List ℕ)) (h : HostLine) (d e f : List ℕ) (a k : ℕ) → IsHostLine Kind.Zone fields h → length (bytes_of (records_of serial Kind.Zone fields)) ≤ length d
    → IsPut (encode (soa_record serial h)) d e a → IsPut (bytes_of (host_records h 2 [])) (lent_at a e) f k
    → IsPut (bytes_of (records_of serial Kind.Zone fields)) d (back_at a e f) (a + k)
zone_put serial fields h d e f a k p room q r =
    let room' = room_of (zone_records serial h) (records_of serial Kind.Zone fields) (zone_is serial fields h p) (length d) room in
    put_of (zone_records serial h) (records_of serial Kind.Zone fields) (zone_is serial fields h p) d (back_at a e f) (a + k)
    (rest_put (soa_record serial h) (host_records h 2 []) d e a room' q f k r)

pub ruleset zone_line_laws = (rules, contact_short, room_of, zone_is, rest_fits, rest_starts)
