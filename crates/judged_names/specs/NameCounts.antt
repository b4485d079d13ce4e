-- A name's reading with counts in the place of bytes, as the code keeps them. proofs/Name.antt shows that it is the rules' own.
use Rattle.std.specs.Prelude.{ℕ, ◌+◌, List, [], ◌∷◌, leb, eqb, Result, Ok, Err}
use Rattle.rules.specs.Lists.{pick}
use Rattle.rules.specs.Names.{name_byte, longest_name}
use Rattle.rules.specs.declared.faults.NameFault.{NameFault}
use Rattle.judged_names.specs.declared.judged.ByteKind.{ByteKind}
use Rattle.judged_names.specs.declared.judged.Misnamed.{Misnamed}

unfoldable pub byte_kind : ℕ → ByteKind
byte_kind b = pick (eqb b 46) ByteKind.Dot (pick (name_byte b) ByteKind.Plain ByteKind.Other)

unfoldable pub by_kind : {A : Type 0} → ByteKind → A → A → A → A
by_kind ByteKind.Dot dot plain other = dot
by_kind ByteKind.Plain dot plain other = plain
by_kind ByteKind.Other dot plain other = other

-- the length on the wire of a label of so many bytes
unfoldable pub label_room : ℕ → ℕ
label_room begun = pick (eqb begun 0) 0 (begun + 1)

-- a name of this size on the wire
unfoldable pub judged_size : ℕ → Result ℕ Misnamed
judged_size size = pick (leb size longest_name) (Ok size) (Err (record { fault = NameFault.NameTooLong; place = 0 }))

-- the rest of a name's text from its place on, behind labels of so many bytes on the wire, in a label of which so many bytes are read
unfoldable pub judged_from : ℕ → ℕ → ℕ → List ℕ → Result ℕ Misnamed
judged_from closed begun place [] = judged_size (closed + label_room begun + 1)
judged_from closed begun place (b ∷ bs) =
    let next = judged_from (closed + begun + 1) 0 (place + 1) bs in
    let more = judged_from closed (begun + 1) (place + 1) bs in
    by_kind (byte_kind b)
    (pick (eqb begun 0) (Err (record { fault = NameFault.EmptyLabel; place = place })) next)
    (pick (leb 63 begun) (Err (record { fault = NameFault.LabelTooLong; place = place })) more)
    (Err (record { fault = NameFault.ByteNotAllowed; place = place }))
