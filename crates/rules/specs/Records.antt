-- 01, Lines and fields: what the fields of a line say: names put together, defaults, and the records of each kind.
use Rattle.std.specs.Prelude.{ℕ, zero, suc, ◌+◌, ◌-◌, ◌/◌, ◌%◌, List, [], ◌∷◌, ◌++◌, map, reverse, length, drop, take, leb, eqb}
use Rattle.rules.specs.declared.kinds.Kind.{Kind}
use Rattle.rules.specs.declared.quantities.Lo.{Lo}
use Rattle.rules.specs.declared.quantities.Shared.{Shared}
use Rattle.rules.specs.declared.quantities.Port.{Port}
use Rattle.rules.specs.declared.quantities.Priority.{Priority}
use Rattle.rules.specs.declared.quantities.Weight.{Weight}
use Rattle.rules.specs.Lists.{pick, value_or, join_all, has, be}
use Rattle.rules.specs.Texts.{bytes}
use Rattle.rules.specs.Kinds.{field_count, default_ttl, field_at}
use Rattle.rules.specs.Names.{label, wire_of}
use Rattle.rules.specs.Fields.{number_of, address_of, prefix_of, time_of, lo_of, text_of, largest_ttl, largest_short, largest_long}

-- what a line says: a location (a prefix's bytes and lo), or a resource record (owner on the wire as written, type, lo or nothing, ttl,
-- time or 0 for none, record data)
pub data Record : Type 0 where
  location : List ℕ → List ℕ → Record
  resource : List ℕ → ℕ → List ℕ → ℕ → ℕ → List ℕ → Record

unfoldable pub lo_bytes : Lo → List ℕ
lo_bytes Lo.Every = []
lo_bytes (Lo.Code a b) = a ∷ b ∷ []

unfoldable pub number_or : ℕ → ℕ → List ℕ → ℕ
number_or default limit t = value_or default (number_of limit t)

-- field i as a number of 16 bits, 0 for an empty one; and as one of 32 bits with its default
unfoldable pub short_at : List (List ℕ) → ℕ → ℕ
short_at fields i = number_or 0 largest_short (field_at fields i)

unfoldable pub long_at : ℕ → List (List ℕ) → ℕ → ℕ
long_at default fields i = number_or default largest_long (field_at fields i)

-- the last three fields of a kind
unfoldable pub shared_of : Kind → List (List ℕ) → Shared
shared_of kind fields = record {
  ttl = record { 0 = number_or (default_ttl kind) largest_ttl (field_at fields (field_count kind - 3)) };
  time = record { 0 = value_or 0 (time_of (field_at fields (field_count kind - 2))) };
  lo = value_or Lo.Every (lo_of (field_at fields (field_count kind - 1)));
}

-- "Records carry their line's ttl, time and lo."
unfoldable pub resource_of : Shared → List ℕ → ℕ → List ℕ → Record
resource_of shared owner type rdata = resource owner type (lo_bytes shared.lo) shared.ttl.0 shared.time.0 rdata

-- "x. With a dot it is a name. Without one it is a label, and the name is x.ns.fqdn (`mx` for `@`, `srv` for `S`). Empty x gives ns.fqdn"
unfoldable pub host_name : List ℕ → List ℕ → List ℕ → List ℕ
host_name middle owner x = pick (has 46 x) (wire_of x) (label x ++ label middle ++ owner)

unfoldable pub ns : List ℕ
ns = bytes "ns"

unfoldable pub mx : List ℕ
mx = bytes "mx"

unfoldable pub srv : List ℕ
srv = bytes "srv"

-- "contact hostmaster.fqdn"
unfoldable pub hostmaster : List ℕ
hostmaster = 10 ∷ bytes "hostmaster"

unfoldable pub contact_of : List ℕ → List ℕ
contact_of owner = hostmaster ++ owner

-- the names that a line's fields are put together to
unfoldable pub joined_names : Kind → List (List ℕ) → List (List ℕ)
joined_names Kind.Location fields = []
joined_names Kind.Zone fields = host_name ns (wire_of (field_at fields 0)) (field_at fields 2) ∷ contact_of (wire_of (field_at fields 0)) ∷ []
joined_names Kind.Delegation fields = host_name ns (wire_of (field_at fields 0)) (field_at fields 2) ∷ []
joined_names Kind.Host fields = []
joined_names Kind.Alias fields = []
joined_names Kind.Mail fields = host_name mx (wire_of (field_at fields 0)) (field_at fields 2) ∷ []
joined_names Kind.Service fields = host_name srv (wire_of (field_at fields 0)) (field_at fields 2) ∷ []
joined_names Kind.Text fields = []
joined_names Kind.Pointer fields = []
joined_names Kind.Canonical fields = []
joined_names Kind.Authority fields = []
joined_names Kind.Generic fields = []
joined_names Kind.Unknown fields = []

-- "PTR of `=`: IPv4 a.b.c.d is owned by d.c.b.a.in-addr.arpa; IPv6 by its 32 hex digits, last first, lower case, then ip6.arpa."
unfoldable pub decimal : ℕ → List ℕ
decimal n =
    pick (leb 100 n) ((48 + n / 100) ∷ (48 + n / 10 % 10) ∷ (48 + n % 10) ∷ [])
    (pick (leb 10 n) ((48 + n / 10) ∷ (48 + n % 10) ∷ []) ((48 + n) ∷ []))

unfoldable pub decimal_label : ℕ → List ℕ
decimal_label n = label (decimal n)

unfoldable pub hex_digit : ℕ → ℕ
hex_digit n = pick (leb n 9) (48 + n) (87 + n)

unfoldable pub nibble_labels : ℕ → List ℕ
nibble_labels n = 1 ∷ hex_digit (n % 16) ∷ 1 ∷ hex_digit (n / 16) ∷ []

unfoldable pub in_addr_arpa : List ℕ
in_addr_arpa = (7 ∷ bytes "in-addr") ++ (4 ∷ bytes "arpa") ++ (0 ∷ [])

unfoldable pub ip6_arpa : List ℕ
ip6_arpa = (3 ∷ bytes "ip6") ++ (4 ∷ bytes "arpa") ++ (0 ∷ [])

unfoldable pub reverse_name : List ℕ → List ℕ
reverse_name address =
    pick (eqb (length address) 4)
    (join_all (map decimal_label (reverse address)) ++ in_addr_arpa)
    (join_all (map nibble_labels (reverse address)) ++ ip6_arpa)

-- "TXT data are chunks of 127 bytes, the last 1 to 127, each after its length; empty text has no chunk."
unfoldable pub chunks_from : ℕ → List ℕ → List ℕ
chunks_from zero t = []
chunks_from (suc fuel) [] = []
chunks_from (suc fuel) (b ∷ t) =
    let rest = chunks_from fuel (drop 127 (b ∷ t)) in
    pick (leb (length (b ∷ t)) 127) (length (b ∷ t) ∷ b ∷ t) (127 ∷ take 127 (b ∷ t) ++ rest)

unfoldable pub chunks : List ℕ → List ℕ
chunks t = chunks_from (length t) t

-- the data of an SOA record: two names and five numbers
unfoldable pub soa_data : List ℕ → List ℕ → ℕ → ℕ → ℕ → ℕ → ℕ → List ℕ
soa_data mname rname ser ref ret exp min = mname ++ rname ++ be 4 ser ++ be 4 ref ++ be 4 ret ++ be 4 exp ++ be 4 min

-- "SRV data are priority, weight, port, name."
unfoldable pub srv_data : Priority → Weight → Port → List ℕ → List ℕ
srv_data priority weight port name = be 2 priority.0 ++ be 2 weight.0 ++ be 2 port.0 ++ name

-- "Types: A 1, .., AAAA 28": an address of 4 bytes and one of 16; none for an empty field
unfoldable pub address_type : List ℕ → ℕ
address_type address = pick (eqb (length address) 4) 1 28

unfoldable pub address_records : Shared → List ℕ → List ℕ → List Record
address_records shared owner [] = []
address_records shared owner (b ∷ bs) = resource_of shared owner (address_type (b ∷ bs)) (b ∷ bs) ∷ []

-- "The SOA of a `.` line uses these five values, contact hostmaster.fqdn, and ttl 2560, but 0 where the line's ttl is 0."
unfoldable pub soa_shared : Shared → Shared
soa_shared shared = record { ttl = record { 0 = pick (eqb shared.ttl.0 0) 0 2560 }; time = shared.time; lo = shared.lo }

unfoldable pub address_in : List ℕ → List ℕ
address_in t = value_or [] (address_of t)

-- the records of a kind's fields, in the table's order; serial is the caller's
unfoldable pub records_of : ℕ → Kind → List (List ℕ) → List Record
records_of serial Kind.Location fields = location (value_or [] (prefix_of (field_at fields 1))) (lo_bytes (value_or Lo.Every (lo_of (field_at fields 0)))) ∷ []
records_of serial Kind.Zone fields =
    let owner = wire_of (field_at fields 0) in
    let host = host_name ns owner (field_at fields 2) in
    let shared = shared_of Kind.Zone fields in
    resource_of (soa_shared shared) owner 6 (soa_data host (contact_of owner) serial 16384 2048 1048576 2560)
    ∷ resource_of shared owner 2 host
    ∷ address_records shared host (address_in (field_at fields 1))
records_of serial Kind.Delegation fields =
    let owner = wire_of (field_at fields 0) in
    let host = host_name ns owner (field_at fields 2) in
    let shared = shared_of Kind.Delegation fields in
    resource_of shared owner 2 host ∷ address_records shared host (address_in (field_at fields 1))
records_of serial Kind.Host fields =
    let owner = wire_of (field_at fields 0) in
    let address = address_in (field_at fields 1) in
    let shared = shared_of Kind.Host fields in
    address_records shared owner address ++ (resource_of shared (reverse_name address) 12 owner ∷ [])
records_of serial Kind.Alias fields = address_records (shared_of Kind.Alias fields) (wire_of (field_at fields 0)) (address_in (field_at fields 1))
records_of serial Kind.Mail fields =
    let owner = wire_of (field_at fields 0) in
    let host = host_name mx owner (field_at fields 2) in
    let shared = shared_of Kind.Mail fields in
    resource_of shared owner 15 (be 2 (short_at fields 3) ++ host)
    ∷ address_records shared host (address_in (field_at fields 1))
records_of serial Kind.Service fields =
    let owner = wire_of (field_at fields 0) in
    let host = host_name srv owner (field_at fields 2) in
    let shared = shared_of Kind.Service fields in
    let port : Port = record { 0 = short_at fields 3 } in
    let priority : Priority = record { 0 = short_at fields 4 } in
    let weight : Weight = record { 0 = short_at fields 5 } in
    resource_of shared owner 33 (srv_data priority weight port host) ∷ address_records shared host (address_in (field_at fields 1))
records_of serial Kind.Text fields =
    resource_of (shared_of Kind.Text fields) (wire_of (field_at fields 0)) 16 (chunks (value_or [] (text_of (field_at fields 1)))) ∷ []
records_of serial Kind.Pointer fields =
    resource_of (shared_of Kind.Pointer fields) (wire_of (field_at fields 0)) 12 (wire_of (field_at fields 1)) ∷ []
records_of serial Kind.Canonical fields =
    resource_of (shared_of Kind.Canonical fields) (wire_of (field_at fields 0)) 5 (wire_of (field_at fields 1)) ∷ []
records_of serial Kind.Authority fields =
    resource_of (shared_of Kind.Authority fields) (wire_of (field_at fields 0)) 6
    (soa_data (wire_of (field_at fields 1)) (wire_of (field_at fields 2)) (long_at serial fields 3) (long_at 16384 fields 4) (long_at 2048 fields 5) (long_at 1048576 fields 6) (long_at 2560 fields 7))
    ∷ []
records_of serial Kind.Generic fields =
    resource_of (shared_of Kind.Generic fields) (wire_of (field_at fields 0)) (short_at fields 1) (value_or [] (text_of (field_at fields 2))) ∷ []
records_of serial Kind.Unknown fields = []
