-- Names that are put together, by their sizes.
use Rattle.std.specs.Prelude.{List, ℕ, ◌+◌, length, leb}
use Rattle.rules.specs.Lists.{pick, has}
use Rattle.rules.specs.Names.{label, wire_of}
use Rattle.rules.specs.Answers.{no_fault}
use Rattle.rules.specs.declared.faults.Fault.{Fault}
use Rattle.rules.specs.declared.faults.FieldKind.{FieldKind}
use Rattle.rules.specs.declared.faults.LineFault.{LineFault}
use Rattle.rules.specs.declared.kinds.Kind.{Kind}

-- the size on the wire of the label `ns`, `mx` or `srv` of a kind; 0 for a kind that puts no names together
abbrev pub middle_size : Kind → ℕ
middle_size Kind.Location = 0
middle_size Kind.Zone = 3
middle_size Kind.Delegation = 3
middle_size Kind.Host = 0
middle_size Kind.Alias = 0
middle_size Kind.Mail = 3
middle_size Kind.Service = 4
middle_size Kind.Text = 0
middle_size Kind.Pointer = 0
middle_size Kind.Canonical = 0
middle_size Kind.Authority = 0
middle_size Kind.Generic = 0
middle_size Kind.Unknown = 0

-- the size of `hostmaster` on the wire for a kind with a contact
abbrev pub contact_size : Kind → ℕ
contact_size Kind.Location = 0
contact_size Kind.Zone = 11
contact_size Kind.Delegation = 0
contact_size Kind.Host = 0
contact_size Kind.Alias = 0
contact_size Kind.Mail = 0
contact_size Kind.Service = 0
contact_size Kind.Text = 0
contact_size Kind.Pointer = 0
contact_size Kind.Canonical = 0
contact_size Kind.Authority = 0
contact_size Kind.Generic = 0
contact_size Kind.Unknown = 0

-- the size of the name that x gives
unfoldable pub host_size : ℕ → ℕ → List ℕ → ℕ
host_size middle owner x = pick (has 46 x) (length (wire_of x)) (length (label x) + middle + owner)

-- no fault for a name of at most 255 bytes
unfoldable pub if_short : ℕ → LineFault
if_short size = pick (leb size 255) no_fault (record { fault = Fault.Malformed FieldKind.Name; field = 0 })
