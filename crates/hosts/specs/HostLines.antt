-- What is read of a line with a field x.
use Rattle.std.specs.Prelude.{◌≡◌, Bool, true, false, List, [], ◌∷◌, ◌++◌, ℕ}
use Rattle.rules.specs.Kinds.{field_at}
use Rattle.rules.specs.Names.{wire_of}
use Rattle.rules.specs.Records.{Record, ns, mx, srv, shared_of, resource_of, host_name, address_records, address_in}
use Rattle.rules.specs.declared.kinds.Kind.{Kind}
use Rattle.addresses.specs.HeldAddress.{held_address}
use Rattle.hosts.specs.declared.hosts.HostLine.{HostLine}

-- the label that stands between x and the fqdn
unfoldable pub middle_of : Kind → List ℕ
middle_of Kind.Location = []
middle_of Kind.Zone = ns
middle_of Kind.Delegation = ns
middle_of Kind.Host = []
middle_of Kind.Alias = []
middle_of Kind.Mail = mx
middle_of Kind.Service = srv
middle_of Kind.Text = []
middle_of Kind.Pointer = []
middle_of Kind.Canonical = []
middle_of Kind.Authority = []
middle_of Kind.Generic = []
middle_of Kind.Unknown = []

-- the kinds with a field x
abbrev pub names_host : Kind → Bool
names_host Kind.Location = false
names_host Kind.Zone = true
names_host Kind.Delegation = true
names_host Kind.Host = false
names_host Kind.Alias = false
names_host Kind.Mail = true
names_host Kind.Service = true
names_host Kind.Text = false
names_host Kind.Pointer = false
names_host Kind.Canonical = false
names_host Kind.Authority = false
names_host Kind.Generic = false
names_host Kind.Unknown = false

-- what is read of such a line
pub record IsHostLine (kind : Kind) (fields : List (List ℕ)) (h : HostLine) : Type 0 where
  pub shared : h.shared ≡ shared_of kind fields
  pub owner : h.owner ≡ wire_of (field_at fields 0)
  pub host : h.host ≡ host_name (middle_of kind) (wire_of (field_at fields 0)) (field_at fields 2)
  pub address : held_address h.address ≡ address_in (field_at fields 1)

-- the records of such a line behind its SOA: a record that names the host behind some bytes, and the host's address
abbrev pub host_records : HostLine → ℕ → List ℕ → List Record
host_records h type before =
    resource_of h.shared h.owner type (before ++ h.host) ∷ address_records h.shared h.host (held_address h.address)
