-- 01, Lines and fields: the forms of fields, what each reads as, and the fault of one that is refused.
use Rattle.std.specs.Prelude.{ℕ, ◌+◌, ◌-◌, ◌*◌, Bool, false, not, ◌&&◌, ◌||◌, List, [], ◌∷◌, map, length, leb, ltb, eqb, Option, Some, None}
use Rattle.rules.specs.declared.faults.Fault.{Fault}
use Rattle.rules.specs.declared.faults.FieldKind.{FieldKind}
use Rattle.rules.specs.declared.kinds.Meaning.{Meaning}
use Rattle.rules.specs.declared.quantities.Lo.{Lo}
use Rattle.rules.specs.Lists.{pick, all, join_all, split_on, has, lower, be}
use Rattle.rules.specs.Names.{NameRead, named, misnamed, name_of}

-- "Number. 1 to 10 decimal digits", at most a limit
unfoldable pub digit : ℕ → Bool
digit b = leb 48 b && leb b 57

unfoldable pub decimal_from : ℕ → List ℕ → ℕ
decimal_from n [] = n
decimal_from n (d ∷ ds) = decimal_from (n * 10 + (d - 48)) ds

unfoldable pub number_of : ℕ → List ℕ → Option ℕ
number_of limit t =
    pick (leb 1 (length t) && leb (length t) 10 && all digit t && leb (decimal_from 0 t) limit) (Some (decimal_from 0 t)) None

-- "ttl at most 2,147,483,647; dist, port, prio, wt, n at most 65,535; the five SOA numbers at most 4,294,967,295."
unfoldable pub largest_ttl : ℕ
largest_ttl = 2147483647

unfoldable pub largest_short : ℕ
largest_short = 65535

unfoldable pub largest_long : ℕ
largest_long = 4294967295

-- "ip": "eight groups of 1 to 4 hex digits, either case, joined by single underscores"
unfoldable pub lower_hex_digit : ℕ → Bool
lower_hex_digit b = digit b || (leb 97 b && leb b 102)

unfoldable pub hex_value : ℕ → ℕ
hex_value b = pick (digit b) (b - 48) (lower b - 87)

unfoldable pub hex_from : ℕ → List ℕ → ℕ
hex_from n [] = n
hex_from n (d ∷ ds) = hex_from (n * 16 + hex_value d) ds

unfoldable pub group : List ℕ → Bool
group t = leb 1 (length t) && leb (length t) 4 && all (λ b. lower_hex_digit (lower b)) t

-- a group as two bytes
unfoldable pub group_bytes : List ℕ → List ℕ
group_bytes t = be 2 (hex_from 0 t)

-- "numbers 0 to 255, no leading zero but 0 itself"
unfoldable pub first_is_zero : List ℕ → Bool
first_is_zero [] = false
first_is_zero (d ∷ ds) = eqb d 48

unfoldable pub octet : List ℕ → Bool
octet t = leb 1 (length t) && leb (length t) 3 && all digit t && leb (decimal_from 0 t) 255 && (eqb (length t) 1 || not (first_is_zero t))

-- the pieces as one list of bytes, if there are as many as wanted and each is good
unfoldable pub address_if : Bool → (List ℕ → Bool) → (List ℕ → List ℕ) → List (List ℕ) → Option (List ℕ)
address_if wanted good bytes pieces = pick (wanted && all good pieces) (Some (join_all (map bytes pieces))) None

unfoldable pub octet_byte : List ℕ → List ℕ
octet_byte t = decimal_from 0 t ∷ []

-- "With an underscore: eight groups .. (AAAA). Else four numbers .. (A)."
unfoldable pub address_of : List ℕ → Option (List ℕ)
address_of t =
    pick (has 95 t)
    (address_if (eqb (length (split_on 95 t)) 8) group group_bytes (split_on 95 t))
    (address_if (eqb (length (split_on 46 t)) 4) octet octet_byte (split_on 46 t))

-- "Prefix. None to four such numbers joined by dots, no dot at the end."
unfoldable pub prefix_of : List ℕ → Option (List ℕ)
prefix_of [] = Some []
prefix_of (b ∷ t) = address_if (leb (length (split_on 46 (b ∷ t))) 4) octet octet_byte (split_on 46 (b ∷ t))

-- "time. .. 16 hex digits, letters in lower case, neither all zero nor 2^63 or more."
unfoldable pub time_of : List ℕ → Option ℕ
time_of t =
    pick (eqb (length t) 16 && all lower_hex_digit t && leb 1 (hex_from 0 t) && ltb (hex_from 0 t) 9223372036854775808)
    (Some (hex_from 0 t)) None

-- "lo. One or two ASCII letters, case kept." The code of a location has two bytes, the second 0 for one letter.
unfoldable pub letter : ℕ → Bool
letter b = (leb 65 b && leb b 90) || (leb 97 b && leb b 122)

unfoldable pub lo_of : List ℕ → Option Lo
lo_of [] = None
lo_of (a ∷ []) = pick (letter a) (Some (Lo.Code a 0)) None
lo_of (a ∷ b ∷ []) = pick (letter a && letter b) (Some (Lo.Code a b)) None
lo_of (a ∷ b ∷ c ∷ t) = None

-- "s, rdata. Any bytes; a backslash needs three octal digits, 000 to 377."
unfoldable pub octal : ℕ → Bool
octal b = leb 48 b && leb b 55

unfoldable pub onto_text : ℕ → Option (List ℕ) → Option (List ℕ)
onto_text b None = None
onto_text b (Some t) = Some (b ∷ t)

unfoldable pub text_of : List ℕ → Option (List ℕ)
text_of [] = Some []
text_of (b ∷ []) = pick (eqb b 92) None (Some (b ∷ []))
text_of (b ∷ c ∷ []) = pick (eqb b 92) None (onto_text b (text_of (c ∷ [])))
text_of (b ∷ c ∷ d ∷ []) = pick (eqb b 92) None (onto_text b (text_of (c ∷ d ∷ [])))
text_of (b ∷ c ∷ d ∷ e ∷ t) =
    let escaped = pick (leb 48 c && leb c 51 && octal d && octal e) (onto_text ((c - 48) * 64 + (d - 48) * 8 + (e - 48)) (text_of t)) None in
    let plain = onto_text b (text_of (c ∷ d ∷ e ∷ t)) in
    pick (eqb b 92) escaped plain

-- 01, What an answer says: the faults of fields, 5 to 12

-- a field that doesn't read as it should
unfoldable pub unless : {A : Type 0} → FieldKind → Option A → Fault
unless kind None = Fault.Malformed kind
unless kind (Some value) = Fault.Done

unfoldable pub name_fault : NameRead → Fault
name_fault (named wire) = Fault.Done
name_fault (misnamed fault place) = Fault.Malformed FieldKind.Name

-- "12 first, then its own fault"
unfoldable pub needed : FieldKind → List ℕ → Fault → Fault
needed kind [] fault = Fault.Empty kind
needed kind (b ∷ t) fault = fault

-- a field that may be empty
unfoldable pub optional : List ℕ → Fault → Fault
optional [] fault = Fault.Done
optional (b ∷ t) fault = fault

-- "n is 0, 2, 5, 6, 12, 15 or 252": "11 after 7"
unfoldable pub reserved : ℕ → Bool
reserved n = has n (0 ∷ 2 ∷ 5 ∷ 6 ∷ 12 ∷ 15 ∷ 252 ∷ [])

unfoldable pub type_fault : Option ℕ → Fault
type_fault None = Fault.Malformed FieldKind.Number
type_fault (Some n) = pick (reserved n) Fault.ReservedType Fault.Done

-- the fault of a field's text, read as its meaning; x is a name or a label, and a label's faults are a name's
unfoldable pub fault_of : Meaning → List ℕ → Fault
fault_of Meaning.Owner t = name_fault (name_of t)
fault_of Meaning.Target t = needed FieldKind.Name t (name_fault (name_of t))
fault_of Meaning.HostPart t = name_fault (name_of t)
fault_of Meaning.Address t = needed FieldKind.Address t (unless FieldKind.Address (address_of t))
fault_of Meaning.OptionalAddress t = optional t (unless FieldKind.Address (address_of t))
fault_of Meaning.Short t = optional t (unless FieldKind.Number (number_of largest_short t))
fault_of Meaning.Long t = optional t (unless FieldKind.Number (number_of largest_long t))
fault_of Meaning.Port t = needed FieldKind.Number t (unless FieldKind.Number (number_of largest_short t))
fault_of Meaning.RecordType t = needed FieldKind.Number t (type_fault (number_of largest_short t))
fault_of Meaning.Ttl t = optional t (unless FieldKind.Number (number_of largest_ttl t))
fault_of Meaning.Time t = optional t (unless FieldKind.Time (time_of t))
fault_of Meaning.Lo t = optional t (unless FieldKind.Lo (lo_of t))
fault_of Meaning.LocationLo t = needed FieldKind.Lo t (unless FieldKind.Lo (lo_of t))
fault_of Meaning.Prefix t = unless FieldKind.Address (prefix_of t)
fault_of Meaning.Text t = unless FieldKind.Escape (text_of t)
