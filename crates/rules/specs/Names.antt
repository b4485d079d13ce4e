-- 01, Lines and fields: Name. A name's text and its form on the wire.
use Rattle.std.specs.Prelude.{ℕ, zero, suc, Bool, true, false, not, ◌&&◌, List, [], ◌∷◌, ◌++◌, length, leb, eqb}
use Rattle.rules.specs.declared.faults.NameFault.{NameFault}
use Rattle.rules.specs.declared.faults.NameFault.TheVariants.{EmptyLabel, LabelTooLong, NameTooLong, ByteNotAllowed}
use Rattle.rules.specs.Lists.{pick, same_bytes}

-- what a name's text is: a name on the wire, or the first fault from the left and its place in the text, from 0
pub data NameRead : Type 0 where
  named : List ℕ → NameRead
  misnamed : NameFault → ℕ → NameRead

-- "Bytes 33 to 126, without dot and backslash."
unfoldable pub name_byte : ℕ → Bool
name_byte b = leb 33 b && leb b 126 && not (eqb b 46) && not (eqb b 92)

-- a label on the wire: its length and its bytes; no label for none
unfoldable pub label : List ℕ → List ℕ
label [] = []
label (b ∷ bs) = length (b ∷ bs) ∷ b ∷ bs

-- "At most 255 bytes on the wire, lengths and closing zero included."
unfoldable pub longest_name : ℕ
longest_name = 255

unfoldable pub if_not_too_long : List ℕ → NameRead
if_not_too_long wire = pick (leb (length wire) longest_name) (named wire) (misnamed NameTooLong 0)

-- "Labels of 1 to 63 bytes joined by dots, one dot at the end allowed": the rest of a text from its place on, behind the labels that are
-- closed, in a label of which these bytes are read
unfoldable pub name_from : List ℕ → List ℕ → ℕ → List ℕ → NameRead
name_from closed begun place [] = if_not_too_long (closed ++ label begun ++ (0 ∷ []))
name_from closed begun place (b ∷ bs) =
    let next = name_from (closed ++ label begun) [] (suc place) bs in
    let more = name_from closed (begun ++ (b ∷ [])) (suc place) bs in
    pick (eqb b 46) (pick (eqb (length begun) 0) (misnamed EmptyLabel place) next)
    (pick (name_byte b) (pick (leb 63 (length begun)) (misnamed LabelTooLong place) more) (misnamed ByteNotAllowed place))

-- "empty or `.` is the root."
unfoldable pub name_of : List ℕ → NameRead
name_of text = pick (same_bytes text (46 ∷ [])) (named (0 ∷ [])) (name_from [] [] 0 text)

unfoldable pub wire_in : NameRead → List ℕ
wire_in (named wire) = wire
wire_in (misnamed fault place) = []

-- the name on the wire of a text that is one
unfoldable pub wire_of : List ℕ → List ℕ
wire_of text = wire_in (name_of text)

-- "labels of 1 to 63 bytes of any value, closing zero, .. nothing behind": k more bytes of a label, and then labels up to the closing zero
unfoldable pub labels : ℕ → List ℕ → Bool
labels zero [] = false
labels zero (zero ∷ []) = true
labels zero (zero ∷ b ∷ n) = false
labels zero (suc k ∷ n) = leb (suc k) 63 && labels (suc k) n
labels (suc k) [] = false
labels (suc k) (b ∷ n) = labels k n

-- "at most 255 in all"
unfoldable pub is_wire : List ℕ → Bool
is_wire n = leb (length n) longest_name && labels 0 n
