-- 01, Who sees what: what a reader takes for records, what it refuses, and what asking answers.
use Rattle.std.specs.Prelude.{ℕ, zero, suc, ◌+◌, ◌-◌, Bool, false, not, ◌&&◌, ◌||◌, List, [], ◌∷◌, ◌++◌, length, drop, take, leb, ltb, eqb, Option, Some, None, slice_get}
use Rattle.rules.specs.declared.replies.Reply.{Reply}
use Rattle.rules.specs.declared.replies.AskFault.{AskFault}
use Rattle.rules.specs.declared.replies.Outcome.{Outcome}
use Rattle.rules.specs.declared.replies.Response.{Response}
use Rattle.rules.specs.Lists.{pick, all, from_le, from_be}
use Rattle.rules.specs.Names.{is_wire}
use Rattle.rules.specs.Fields.{letter, largest_ttl}
use Rattle.rules.specs.Records.{Record, location, resource}
use Rattle.rules.specs.Bytes.{wild, rdata_of}
use Rattle.rules.specs.Questions.{Question, Placed, placed_from, Result, answers, lifetime_of}

-- "free of A to Z"
unfoldable pub lowered : List ℕ → Bool
lowered n = all (λ b. not (leb 65 b && leb b 90)) n

-- "another key that is no such name free of A to Z .., or an ordinary one whose first label is just `*`"
unfoldable pub ordinary_key : List ℕ → Bool
ordinary_key key = is_wire key && lowered key && not (wild key)

-- "(at most 253 bytes for a wildcard)"
unfoldable pub wildcard_key : List ℕ → Bool
wildcard_key key = is_wire key && lowered key && leb (length key) 253

-- lo in range: a letter, and a letter or 0
unfoldable pub is_lo : List ℕ → Bool
is_lo [] = false
is_lo (a ∷ []) = false
is_lo (a ∷ b ∷ []) = letter a && (eqb b 0 || letter b)
is_lo (a ∷ b ∷ c ∷ rest) = false

-- a moment is below 2^63
unfoldable pub moment_end : ℕ
moment_end = 9223372036854775808

-- ttl, time and record data behind the flag and lo: "data too short for its fixed fields; .. ttl or time out of range"
unfoldable pub behind_lo : List ℕ → ℕ → List ℕ → List ℕ → Option Record
behind_lo owner type lo rest =
    let ttl = from_be 0 (take 4 rest) in
    let time = from_be 0 (take 8 (drop 4 rest)) in
    pick (leb 12 (length rest) && leb ttl largest_ttl && ltb time moment_end) (Some (resource owner type lo ttl time (drop 12 rest))) None

unfoldable pub with_lo : List ℕ → ℕ → List ℕ → Option Record
with_lo owner type rest = pick (is_lo (take 2 rest)) (behind_lo owner type (take 2 rest) (drop 2 rest)) None

-- by the flag byte: `=` and `>` are ordinary, `*` and `+` a wildcard whose owner has the label `*` in front
unfoldable pub by_flag : List ℕ → ℕ → ℕ → List ℕ → Option Record
by_flag key type flag rest =
    pick (eqb flag 61) (pick (ordinary_key key) (behind_lo key type [] rest) None)
    (pick (eqb flag 62) (pick (ordinary_key key) (with_lo key type rest) None)
    (pick (eqb flag 42) (pick (wildcard_key key) (behind_lo (1 ∷ 42 ∷ key) type [] rest) None)
    (pick (eqb flag 43) (pick (wildcard_key key) (with_lo (1 ∷ 42 ∷ key) type rest) None)
    None)))

unfoldable pub resource_in : List ℕ → List ℕ → Option Record
resource_in key [] = None
resource_in key (t ∷ []) = None
resource_in key (t ∷ u ∷ []) = None
resource_in key (t ∷ u ∷ flag ∷ rest) = by_flag key (from_be 0 (t ∷ u ∷ [])) flag rest

-- "a location key outside 2 to 6 bytes or data not 2"; "its second byte must be `%`"
unfoldable pub location_in : ℕ → List ℕ → List ℕ → Option Record
location_in mark prefix lo = pick (eqb mark 37 && leb (length prefix) 4 && is_lo lo) (Some (location prefix lo)) None

-- the record of a key and its data. "A location key is one that starts with 0 and has two bytes or more"
unfoldable pub record_in : List ℕ → List ℕ → Option Record
record_in [] rdata = None
record_in (zero ∷ []) rdata = resource_in (zero ∷ []) rdata
record_in (zero ∷ mark ∷ prefix) rdata = location_in mark prefix rdata
record_in (suc b ∷ key) rdata = resource_in (suc b ∷ key) rdata

unfoldable pub onto_records : Option Record → Option (List Record) → Option (List Record)
onto_records None rs = None
onto_records (Some r) None = None
onto_records (Some r) (Some rs) = Some (r ∷ rs)

-- a record of k key bytes and d data bytes, and what is behind it: "lengths that don't fit"
unfoldable pub decode_one : ℕ → ℕ → List ℕ → (List ℕ → Option (List Record)) → Option (List Record)
decode_one k d rest more =
    let decoded = onto_records (record_in (take k rest) (take d (drop k rest))) (more (drop d (drop k rest))) in
    pick (leb (k + d) (length rest)) decoded None

-- the count is one that the number of records can't exceed: the number of bytes
unfoldable pub decode_from : ℕ → List ℕ → Option (List Record)
decode_from zero [] = Some []
decode_from zero (b ∷ bs) = None
decode_from (suc count) [] = Some []
decode_from (suc count) (b ∷ bs) =
    let decoded = decode_one (from_le (take 4 (b ∷ bs))) (from_le (take 4 (drop 4 (b ∷ bs)))) (drop 8 (b ∷ bs)) (λ rest. decode_from count rest) in
    pick (leb 8 (length (b ∷ bs))) decoded None

-- the records of a stream, or that its bytes aren't whole records
unfoldable pub decode : List ℕ → Option (List Record)
decode stream = decode_from (length stream) stream

-- asking's numbers
abbrev pub reply_number : Reply → ℕ
reply_number (Reply.Found type lifetime place count) = 0
reply_number Reply.NoMore = 18
reply_number (Reply.Refused AskFault.Name) = 15
reply_number (Reply.Refused AskFault.Moment) = 16
reply_number (Reply.Refused AskFault.Client) = 17
reply_number (Reply.Refused AskFault.Records) = 14

-- "Asking answers a number, a type, a lifetime, and the place (from 0) and length .. With 18 and every refusal all but the number are 0." With 18 the outcome of W8 is given too, behind these.
abbrev pub reply_values : Reply → List ℕ
reply_values (Reply.Found type lifetime place count) = type ∷ lifetime.0 ∷ place ∷ count ∷ []
reply_values Reply.NoMore = 0 ∷ 0 ∷ 0 ∷ 0 ∷ []
reply_values (Reply.Refused fault) = 0 ∷ 0 ∷ 0 ∷ 0 ∷ []

-- W8: "The outcomes, 1 to 5"
abbrev pub outcome_number : Outcome → ℕ
outcome_number Outcome.Refused = 0
outcome_number Outcome.NotOurs = 1
outcome_number Outcome.Referral = 2
outcome_number Outcome.Records = 3
outcome_number Outcome.NoSuchType = 4
outcome_number Outcome.NoSuchName = 5

-- "The outcome is the answer's last number .., given with 0 and 18, and 0 on a refusal."
unfoldable pub response_numbers : Response → List ℕ
response_numbers r = reply_number r.reply ∷ reply_values r.reply ++ (outcome_number r.outcome ∷ [])

unfoldable pub type_of : Record → ℕ
type_of (location prefix lo) = 0
type_of (resource owner type lo ttl time rdata) = type

-- "the place .. and length of the record data alone, behind the time"
unfoldable pub reply_of : ℕ → Option Placed → Reply
reply_of moment None = Reply.NoMore
reply_of moment (Some p) =
    Reply.Found (type_of p.rec) (record { 0 = lifetime_of moment p.rec }) (p.end - length (rdata_of p.rec)) (length (rdata_of p.rec))

-- "the ordinal picks one, or the call says 18"
unfoldable pub response_of : ℕ → Result → ℕ → Response
response_of moment result ordinal = record { outcome = result.outcome; reply = reply_of moment (slice_get result.list ordinal) }

-- the rules of asking over a list of records
unfoldable pub response_from : List Record → Question → ℕ → Response
response_from rs q ordinal = response_of q.moment (answers q (placed_from 0 rs)) ordinal

unfoldable pub refusal : AskFault → Response
refusal fault = record { outcome = Outcome.Refused; reply = Reply.Refused fault }

unfoldable pub response_decoded : Option (List Record) → Question → ℕ → Response
response_decoded None q ordinal = refusal AskFault.Records
response_decoded (Some rs) q ordinal = response_from rs q ordinal

-- "a client address of 4 or 16 bytes"
unfoldable pub is_client : List ℕ → Bool
is_client client = eqb (length client) 4 || eqb (length client) 16

-- what asking answers: "It refuses, in this order: 15 .. 16 .. 17 .. 14"
unfoldable pub ask_response : List ℕ → Question → ℕ → Response
ask_response stream q ordinal =
    let decoded = response_decoded (decode stream) q ordinal in
    pick (not (is_wire q.name)) (refusal AskFault.Name)
    (pick (leb moment_end q.moment) (refusal AskFault.Moment)
    (pick (not (is_client q.client)) (refusal AskFault.Client)
    decoded))
