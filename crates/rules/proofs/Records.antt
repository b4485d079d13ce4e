-- The records of a good line are sound: what decoding asks of them holds.
use mathlib.Core.Path.{◌≡◌}
use Prim.Native.Nat.{ℕ, zero, suc, ◌*◌, ◌≤◌, ◌<◌}
use native.Mathlib.Omega.{arith}
use mathlib.Core.Bool.{Bool, true, false}
use mathlib.Core.List.{List, [], ◌∷◌, ◌++◌, map, reverse}
use lib.ListN.{length, drop, length-append, length-take, length-drop, length-reverse}
use lib.Dec.{T, nleb→lt}
use Rattle.rules.specs.declared.kinds.Kind.{Kind}
use Rattle.rules.specs.declared.kinds.Meaning.{Meaning}
use Rattle.rules.specs.declared.quantities.Shared.{Shared}
use Rattle.rules.specs.Lists.{pick, value_or, join_all, has, be, split_on}
use Rattle.rules.specs.Kinds.{before_stripped, strip, ignored, kind_of, common, meanings, default_ttl, field_at}
use Rattle.rules.specs.Names.{label, wire_of, labels}
use Rattle.rules.specs.Fields.{fault_of, text_of, largest_ttl, largest_short}
use Rattle.rules.specs.Records.{Record, location, resource, lo_bytes, short_at, shared_of, resource_of, host_name, ns, mx, srv, contact_of, joined_names, decimal, decimal_label, nibble_labels, in_addr_arpa, ip6_arpa, reverse_name, chunks_from, chunks, soa_data, srv_data, address_type, address_records, soa_shared, address_in, records_of}
use Rattle.rules.specs.Answers.{is_done, kind_fault, stripped_fault, is_good, stripped_records, line_records}
use Rattle.rules.specs.Reading.{is_lo}
use Rattle.rules.proofs.Tests.{pick_ok, tests}
use Rattle.rules.proofs.Lists.{All, nil, cons, all_append, all_head, all_tail, length_join, split_short, all_fields}
use Rattle.rules.proofs.Numbers.{length_be}
use Rattle.rules.proofs.Names.{Wire, wire_of_lem, labels_of, short_of, Before, before_label, before_append}
use Rattle.rules.proofs.Fields.{LoOrNone, number_most, time_most, address_short, prefix_short, lo_ok, text_short, owner_wire, target_wire, host_wire, host_label, location_lo}
use Rattle.rules.proofs.GoodLines.{Done, FieldsDone, kind_done, line_done}

pub record Sound (owner : List ℕ) (type : ℕ) (lo : List ℕ) (ttl time : ℕ) (rdata : List ℕ) : Type 0 where
  pub owned : Wire owner
  pub typed : type < 65536
  pub coded : LoOrNone lo
  pub lived : ttl ≤ 2147483647
  pub timed : time < 9223372036854775808
  pub sized : length rdata ≤ 4096

pub data Ok : Record → Type 0 where
  ok_location : {prefix lo : List ℕ} → length prefix ≤ 4 → T (is_lo lo) → Ok (location prefix lo)
  ok_resource : {owner lo rdata : List ℕ} {type ttl time : ℕ} → Sound owner type lo ttl time rdata → Ok (resource owner type lo ttl time rdata)

-- ---- names put together

label_short : (l : List ℕ) → length (label l) ≤ suc (length l)
unfolding label
label_short [] = omega arith
label_short (b ∷ l) = omega arith

before_join {ℓ} : {A : Type ℓ} (f : A → List ℕ) (xs : List A) → ((x : A) → Before (f x)) → Before (join_all (map f xs))
unfolding join_all
before_join f [] h n t = t
before_join f (x ∷ xs) h n t = before_append (f x) (join_all (map f xs)) (h x) (before_join f xs h) n t

host_ok : (middle owner x : List ℕ) → length middle ≤ 63 → Wire owner → T (is_done (fault_of Meaning.HostPart x)) → length (host_name middle owner x) ≤ 255 → Wire (host_name middle owner x)
unfolding host_name
host_ok middle owner x m o d =
    pick_ok (λ n. length n ≤ 255 → Wire n) (has 46 x) (λ t s. host_wire x d)
    (λ t s. wire_of_lem _ s (before_append (label x) (label middle) (before_label x (host_label x d t)) (before_label middle m) owner (labels_of owner o)))

decimal_short : (n : ℕ) → length (decimal n) ≤ 3
unfolding decimal
decimal_short n =
    pick_ok (λ (l : List ℕ). length l ≤ 3) _ (λ t. omega arith) (λ t. pick_ok (λ (l : List ℕ). length l ≤ 3) _ (λ u. omega arith) (λ u. omega arith))

before_nibbles : (n : ℕ) → Before (nibble_labels n)
unfolding nibble_labels labels
before_nibbles n m t = t

reverse_wire : (a : List ℕ) → length a ≤ 16 → Wire (reverse_name a)
unfolding reverse_name in_addr_arpa ip6_arpa labels decimal_label nibble_labels
reverse_wire a h =
    pick_ok Wire _
    (λ t. let e : length a ≡ 4 = search tests in
    wire_of_lem _
    (simp length-append (omega (arith, length_join 4 decimal_label (reverse a) (λ n. omega (arith, label_short (decimal n), decimal_short n)), length-reverse a)))
    (before_join decimal_label (reverse a) (λ n. before_label (decimal n) (omega (arith, decimal_short n))) in_addr_arpa tt))
    (λ t. wire_of_lem _
    (simp length-append (omega (arith, length_join 4 nibble_labels (reverse a) (λ n. omega arith), length-reverse a)))
    (before_join nibble_labels (reverse a) before_nibbles ip6_arpa tt))

-- ---- record data

chunks_short : (f : ℕ) (t : List ℕ) → length (chunks_from f t) ≤ 2 * length t
unfolding chunks_from
chunks_short zero t = omega arith
chunks_short (suc f) [] = omega arith
chunks_short (suc f) (b ∷ t) =
    pick_ok (λ (l : List ℕ). length l ≤ 2 * length (b ∷ t)) _ (λ k. omega arith)
    (λ k. simp (length-append, length-take) (omega (arith, nleb→lt (length (b ∷ t)) 127 k, chunks_short f (drop 126 t), length-drop 126 t)))

soa_size : (m r : List ℕ) (a b c d e : ℕ) → length m ≤ 255 → length r ≤ 255 → length (soa_data m r a b c d e) ≤ 4096
unfolding soa_data
soa_size m r a b c d e h k = simp (length-append, length_be) (omega arith)

-- ---- what the records of a line share

record SoundShared (s : Shared) : Type 0 where
  ttl : s.ttl.0 ≤ 2147483647
  time : s.time.0 < 9223372036854775808
  lo : LoOrNone (lo_bytes s.lo)

shared_ok : (k : Kind) (fields : List (List ℕ)) → default_ttl k ≤ 2147483647 → SoundShared (shared_of k fields)
unfolding shared_of largest_ttl
shared_ok k fields h = record { ttl = number_most _ 2147483647 _ h; time = time_most _; lo = lo_ok _ }

module _ {s : Shared} (k : SoundShared s) where
  resource_ok : (owner : List ℕ) (type : ℕ) (rdata : List ℕ) → Wire owner → type < 65536 → length rdata ≤ 4096 → Ok (resource_of s owner type rdata)
  unfolding resource_of
  resource_ok owner type rdata o t n = ok_resource (record { owned = o; typed = t; coded = k.lo; lived = k.ttl; timed = k.time; sized = n })

  address_type_lem : (a : List ℕ) → address_type a < 65536
  unfolding address_type
  address_type_lem a = pick_ok (λ n. n < 65536) _ (λ t. omega arith) (λ t. omega arith)

  addresses_ok : (owner a : List ℕ) → Wire owner → length a ≤ 16 → All Ok (address_records s owner a)
  unfolding address_records
  addresses_ok owner [] o h = nil
  addresses_ok owner (b ∷ a) o h = cons (resource_ok owner _ (b ∷ a) o (address_type_lem (b ∷ a)) (omega arith)) nil

  soa_shared_lem : SoundShared (soa_shared s)
  unfolding soa_shared
  soa_shared_lem = record { ttl = pick_ok (λ n. n ≤ 2147483647) _ (λ t. omega arith) (λ t. omega arith); time = k.time; lo = k.lo }

short_most : (fields : List (List ℕ)) (i : ℕ) → short_at fields i < 65536
unfolding short_at largest_short
short_most fields i = omega (arith, number_most 0 65535 (field_at fields i) (omega arith))

-- a record that names a host behind some bytes, and the host's address
host_records_lem : (s : Shared) (middle owner x a before : List ℕ) (type : ℕ) → SoundShared s → length middle ≤ 63 → Wire owner → T (is_done (fault_of Meaning.HostPart x))
    → length (host_name middle owner x) ≤ 255 → length a ≤ 16 → type < 65536 → length before ≤ 6
    → All Ok (resource_of s owner type (before ++ host_name middle owner x) ∷ address_records s (host_name middle owner x) a)
host_records_lem s middle owner x a before type k m o d j h t b =
    cons (resource_ok k owner type (before ++ host_name middle owner x) o t (simp length-append (omega arith)))
    (addresses_ok k (host_name middle owner x) a (host_ok middle owner x m o d j) h)

-- ---- the records of each kind

abbrev AllShort : List (List ℕ) → Type 0
AllShort names = All (λ n. length n ≤ 255) names

module _ (serial : ℕ) (fields : List (List ℕ)) (short : All (λ t. length t ≤ 1024) fields) where
  address_of_lem : (i : ℕ) → length (address_in (field_at fields i)) ≤ 16
  address_of_lem i = address_short (field_at fields i)

  text_at : (i : ℕ) → length (value_or [] (text_of (field_at fields i))) ≤ 1024
  unfolding field_at
  text_at i = omega (arith, text_short (field_at fields i), all_fields 1024 i short)

  kind_ok : (k : Kind) → FieldsDone 0 (meanings k) fields → AllShort (joined_names k fields) → All Ok (records_of serial k fields)
  unfolding meanings common joined_names records_of default_ttl ns mx srv srv_data chunks contact_of
  kind_ok Kind.Location d j = cons (ok_location (prefix_short _) (location_lo _ d.0)) nil
  kind_ok Kind.Zone d j =
      let s = shared_ok Kind.Zone fields (omega arith) in
      let o = owner_wire _ d.0 in
      cons (resource_ok (soa_shared_lem s) _ 6 _ o (omega arith) (soa_size _ _ serial 16384 2048 1048576 2560 (all_head j) (all_head (all_tail j))))
      (host_records_lem _ ns _ _ _ [] 2 s (omega arith) o d.1.1.0 (all_head j) (address_of_lem 1) (omega arith) (omega arith))
  kind_ok Kind.Delegation d j =
      host_records_lem _ ns _ _ _ [] 2 (shared_ok Kind.Delegation fields (omega arith)) (omega arith) (owner_wire _ d.0) d.1.1.0 (all_head j) (address_of_lem 1) (omega arith) (omega arith)
  kind_ok Kind.Host d j =
      let s = shared_ok Kind.Host fields (omega arith) in
      let o = owner_wire _ d.0 in
      all_append (addresses_ok s _ _ o (address_of_lem 1))
      (cons (resource_ok s _ 12 (wire_of (field_at fields 0)) (reverse_wire _ (address_of_lem 1)) (omega arith) (omega (arith, short_of _ o))) nil)
  kind_ok Kind.Alias d j = addresses_ok (shared_ok Kind.Alias fields (omega arith)) _ _ (owner_wire _ d.0) (address_of_lem 1)
  kind_ok Kind.Mail d j =
      host_records_lem _ mx _ _ _ (be 2 (short_at fields 3)) 15 (shared_ok Kind.Mail fields (omega arith)) (omega arith) (owner_wire _ d.0) d.1.1.0 (all_head j) (address_of_lem 1) (omega arith)
      (omega (arith, length_be 2 (short_at fields 3)))
  kind_ok Kind.Service d j =
      host_records_lem _ srv _ _ _ (be 2 (short_at fields 4) ++ be 2 (short_at fields 5) ++ be 2 (short_at fields 3)) 33 (shared_ok Kind.Service fields (omega arith)) (omega arith) (owner_wire _ d.0) d.1.1.0 (all_head j)
      (address_of_lem 1) (omega arith) (simp (length-append, length_be) (omega arith))
  kind_ok Kind.Text d j =
      cons (resource_ok (shared_ok Kind.Text fields (omega arith)) _ 16 (chunks (value_or [] (text_of (field_at fields 1)))) (owner_wire _ d.0) (omega arith)
      (omega (arith, text_at 1, chunks_short (length (value_or [] (text_of (field_at fields 1)))) (value_or [] (text_of (field_at fields 1))))))
      nil
  kind_ok Kind.Pointer d j =
      cons (resource_ok (shared_ok Kind.Pointer fields (omega arith)) _ 12 (wire_of (field_at fields 1)) (owner_wire _ d.0) (omega arith) (omega (arith, short_of _ (target_wire _ d.1.0)))) nil
  kind_ok Kind.Canonical d j =
      cons (resource_ok (shared_ok Kind.Canonical fields (omega arith)) _ 5 (wire_of (field_at fields 1)) (owner_wire _ d.0) (omega arith) (omega (arith, short_of _ (target_wire _ d.1.0)))) nil
  kind_ok Kind.Authority d j =
      cons (resource_ok (shared_ok Kind.Authority fields (omega arith)) _ 6 _ (owner_wire _ d.0) (omega arith)
      (soa_size _ _ _ _ _ _ _ (short_of _ (target_wire _ d.1.0)) (short_of _ (target_wire _ d.1.1.0))))
      nil
  kind_ok Kind.Generic d j =
      cons (resource_ok (shared_ok Kind.Generic fields (omega arith)) _ _ (value_or [] (text_of (field_at fields 2))) (owner_wire _ d.0) (short_most fields 1) (omega (arith, text_at 2))) nil
  kind_ok Kind.Unknown d j = nil

-- ---- a line

strip_short : (l : List ℕ) → length (strip l) ≤ length l
unfolding strip before_stripped
strip_short [] = omega arith
strip_short (b ∷ l) = head (strip l) (strip_short l)
  where
    head : (r : List ℕ) → length r ≤ length l → length (before_stripped b r) ≤ length (b ∷ l)
    head [] h = pick_ok (λ (x : List ℕ). length x ≤ length (b ∷ l)) _ (λ t. omega arith) (λ t. omega arith)
    head (c ∷ r) h = omega arith

stripped_ok : (serial : ℕ) (l : List ℕ) → length l ≤ 1024 → Done (stripped_fault l) → All Ok (stripped_records serial l)
unfolding stripped_fault stripped_records
stripped_ok serial [] h d = nil
stripped_ok serial (k ∷ rest) h d = by (ignored k) d
  where
    by : (b : Bool) → Done (pick b Rattle.rules.specs.Answers.no_fault (kind_fault (kind_of k) (split_on 58 rest))) → All Ok (pick b [] (records_of serial (kind_of k) (split_on 58 rest)))
    by true d = unfold pick in nil
    by false d = unfold pick in
        let two = kind_done (kind_of k) (split_on 58 rest) d in
        kind_ok serial (split_on 58 rest) (split_short 58 1024 rest (omega arith)) (kind_of k) two.0 two.1

pub line_ok : (serial : ℕ) (l : List ℕ) → T (is_good l) → All Ok (line_records serial l)
unfolding line_records
line_ok serial l d =
    let two = line_done l d in
    stripped_ok serial (strip l) (omega (arith, strip_short l)) two.1
