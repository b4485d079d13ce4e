-- 02, W14: worked examples of towns, moments and names, as tables under one statement, `town_examples_hold`.
use Rattle.std.specs.Prelude.{ℕ, zero, suc, ◌+◌, ◌-◌, ◌≡◌, Bool, true, false, List, [], ◌∷◌, map, length, replicate}
use Prim.Native.String.{String}
use Rattle.rules.specs.Texts.{bytes}
use Rattle.rules.specs.Bytes.{bytes_of}
use Rattle.rules.specs.Answers.{source_records}
use Rattle.rules.specs.Questions.{Question, location_of}
use Rattle.rules.specs.Reading.{response_numbers, ask_response}
use Rattle.rules.specs.Towns.{location_lines, lines_for, result_from, SameResult, without_place, handed}
use Rattle.rules.specs.Moments.{quiet, ends}
use Rattle.rules.specs.Index.{matters}
use Rattle.rules.specs.Bench.{source_of, wire}

-- two towns, east and west, in one zone; west has a delegation at h.b, a zone and a wildcard of its own
unfoldable pub both : List String
both =
    "%ea:192.0" ∷ ".b" ∷ "+h.b:192.0.2.1:::ea" ∷ "+h.b:192.0.2.2:::we" ∷ "&h.b::x.y:::we" ∷ ".s.b::i:::we"
    ∷ "%we:192.168" ∷ "+*.b:192.0.2.3:::we" ∷ "+*.b:192.0.2.4" ∷ []

-- the same for a client in the east: west's lines are gone, another town's are there
unfoldable pub east_alone : List String
east_alone =
    "# east" ∷ "+x.s.b:192.0.2.5:::zz" ∷ ".b " ∷ "%ea:192.0" ∷ "%we:192.168" ∷ "+h.b:192.0.2.1:::ea" ∷ ".h.b::i:::zz"
    ∷ "+*.b:192.0.2.4" ∷ []

unfoldable pub east_client : List ℕ
east_client = 192 ∷ 0 ∷ 2 ∷ 9 ∷ []

unfoldable pub west_client : List ℕ
west_client = 192 ∷ 168 ∷ 0 ∷ 1 ∷ []

unfoldable pub elsewhere : List ℕ
elsewhere = 10 ∷ 0 ∷ 0 ∷ 1 ∷ []

-- a client of 16 bytes, which matches only the empty prefix
unfoldable pub far_client : List ℕ
far_client = 192 ∷ 0 ∷ 2 ∷ replicate 13 0

-- ---- which lines count: a source, a client, its location, the `%` lines, and the other lines for it
pub record CountedRow : Type 0 where
  pub lines : List String
  pub client : List ℕ
  pub here : List ℕ
  pub locations : List String
  pub others : List String

unfoldable pub counted : List String → List ℕ → List ℕ → List String → List String → CountedRow
counted lines client here locations others =
    record { lines = lines; client = client; here = here; locations = locations; others = others }

unfoldable pub counted_of : CountedRow → List ℕ × List (List ℕ) × List (List ℕ)
counted_of r =
    let source = source_of r.lines in
    let here = location_of r.client (source_records 7 source) in
    (here, location_lines source, lines_for here source)

unfoldable pub expected_of : CountedRow → List ℕ × List (List ℕ) × List (List ℕ)
expected_of r = (r.here, map bytes r.locations, map bytes r.others)

unfoldable pub towns : List String
towns = "%ea:192.0" ∷ "%we:192.168" ∷ []

unfoldable pub east_lines : List String
east_lines = ".b" ∷ "+h.b:192.0.2.1:::ea" ∷ "+*.b:192.0.2.4" ∷ []

unfoldable pub counted_rows : List CountedRow
counted_rows =
    counted both east_client (bytes "ea") towns east_lines
    ∷ counted east_alone east_client (bytes "ea") towns east_lines
    ∷ counted both west_client (bytes "we") towns
    (".b" ∷ "+h.b:192.0.2.2:::we" ∷ "&h.b::x.y:::we" ∷ ".s.b::i:::we" ∷ "+*.b:192.0.2.3:::we" ∷ "+*.b:192.0.2.4" ∷ [])
    -- without a location, every line with a lo is another town's
    ∷ counted both elsewhere [] towns (".b" ∷ "+*.b:192.0.2.4" ∷ [])
    -- nor has a client of 16 bytes one, but by an empty prefix
    ∷ counted both far_client [] towns (".b" ∷ "+*.b:192.0.2.4" ∷ [])
    ∷ counted ("+h.b:192.0.2.1:::EA" ∷ "+h.b:192.0.2.2:::ea" ∷ "%ea" ∷ []) far_client (bytes "ea") ("%ea" ∷ [])
    ("+h.b:192.0.2.2:::ea" ∷ [])
    -- a lo of one letter has a 0 behind it; `-` lines are ignored, and a lo that only begins alike is another
    ∷ counted ("%e" ∷ "+h.b:192.0.2.1:::e" ∷ "-h.b:192.0.2.1:::e" ∷ "+h.b:192.0.2.2:::ea" ∷ "" ∷ []) elsewhere
    (101 ∷ 0 ∷ []) ("%e" ∷ []) ("+h.b:192.0.2.1:::e" ∷ [])
    ∷ []

-- ---- what is answered: a source, a question, and at the ordinals from 0 on the six numbers, the place as 0, and the
-- data
pub record AskedRow : Type 0 where
  pub lines : List String
  pub question : Question
  pub told : List (List ℕ × List ℕ)

unfoldable pub asked : List String → List ℕ → ℕ → List String → List (List ℕ × List ℕ) → AskedRow
asked lines client moment name told =
    let question : Question = record { name = wire name; type = 1; client = client; moment = moment } in
    record { lines = lines; question = question; told = told }

unfoldable pub told_at : List ℕ → Question → ℕ → List ℕ × List ℕ
told_at stream q ordinal =
    let r = ask_response stream q ordinal in
    (response_numbers (record { outcome = r.outcome; reply = without_place r.reply }), handed stream r.reply)

unfoldable pub told_up_to : List ℕ → Question → ℕ → ℕ → List (List ℕ × List ℕ)
told_up_to stream q ordinal zero = []
told_up_to stream q ordinal (suc count) = told_at stream q ordinal ∷ told_up_to stream q (suc ordinal) count

unfoldable pub told_by : AskedRow → List (List ℕ × List ℕ)
told_by r = told_up_to (bytes_of (source_records 7 (source_of r.lines))) r.question 0 (length r.told)

-- no more, with the outcome; and an address
unfoldable pub no_record : ℕ → List (List ℕ × List ℕ)
no_record outcome = (18 ∷ 0 ∷ 0 ∷ 0 ∷ 0 ∷ outcome ∷ [], []) ∷ []

unfoldable pub address_and : ℕ → ℕ → List (List ℕ × List ℕ) → List (List ℕ × List ℕ)
address_and lifetime last more = (0 ∷ 1 ∷ lifetime ∷ 0 ∷ 4 ∷ 3 ∷ [], 192 ∷ 0 ∷ 2 ∷ last ∷ []) ∷ more

unfoldable pub address : ℕ → ℕ → List (List ℕ × List ℕ)
address lifetime last = address_and lifetime last (no_record 3)

-- a host with an address in each town
unfoldable pub hosts : List String
hosts = ".b" ∷ "+h.b:192.0.2.1:::ea" ∷ "+h.b:192.0.2.2:::we" ∷ []

-- with another town's among them, and capitals
unfoldable pub several : List String
several =
    "+h.b:192.0.2.9:::zz" ∷ "+h.b:192.0.2.1" ∷ "+h.b:192.0.2.2:::we" ∷ "+H.B:192.0.2.3:::ea" ∷ ".b" ∷ "%we:192.168"
    ∷ "+h.b:192.0.2.4:::we" ∷ "%ea:192" ∷ "+h.b:192.0.2.5" ∷ []

-- an address until a second, another from it on
unfoldable pub change_at : ℕ
change_at = 4611686019378385785

unfoldable pub changes : List String
changes = ".b" ∷ "+w.b:192.0.2.234:0:4000000038af1379" ∷ "+w.b:192.0.2.235::4000000038af1379" ∷ []

unfoldable pub asked_rows : List AskedRow
asked_rows =
    asked both east_client 1 ("h" ∷ "b" ∷ []) (address 86400 1)
    ∷ asked east_alone east_client 1 ("h" ∷ "b" ∷ []) (address 86400 1)
    ∷ asked both east_client 1 ("x" ∷ "s" ∷ "b" ∷ []) (address 86400 4)
    ∷ asked east_alone east_client 1 ("x" ∷ "s" ∷ "b" ∷ []) (address 86400 4)
    ∷ asked both east_client 1 ("c" ∷ []) (no_record 1)
    ∷ asked east_alone east_client 1 ("c" ∷ []) (no_record 1)
    -- letter case is ignored, and no ordinary record stands at *.b
    ∷ asked both east_client 1 ("H" ∷ "b" ∷ []) (address 86400 1)
    ∷ asked both east_client 1 ("*" ∷ "b" ∷ []) (address 86400 4)
    -- the ordinals count what the client sees
    ∷ asked several east_client 1 ("h" ∷ "b" ∷ []) (address_and 86400 1 (address_and 86400 3 (address 86400 5)))
    -- other letters, or more of them, are another town
    ∷ asked ("%e" ∷ ".b" ∷ "+h.b:192.0.2.1:::ea" ∷ "+h.b:192.0.2.2:::E" ∷ "+h.b:192.0.2.3:::e" ∷ []) east_client 1
    ("h" ∷ "b" ∷ []) (address 86400 3)
    ∷ asked both far_client 1 ("h" ∷ "b" ∷ []) (address 86400 4)
    -- a refused question has neither outcome nor data
    ∷ asked both (10 ∷ []) 1 ("h" ∷ "b" ∷ []) ((17 ∷ 0 ∷ 0 ∷ 0 ∷ 0 ∷ 0 ∷ [], []) ∷ [])
    -- in the west h.b is a delegation, and s.b a zone without that name
    ∷ asked both west_client 1 ("h" ∷ "b" ∷ []) ((0 ∷ 2 ∷ 259200 ∷ 0 ∷ 5 ∷ 2 ∷ [], wire ("x" ∷ "y" ∷ [])) ∷ no_record 2)
    ∷ asked both west_client 1 ("x" ∷ "s" ∷ "b" ∷ []) (no_record 5)
    ∷ asked both elsewhere 1 ("h" ∷ "b" ∷ []) (address 86400 4)
    -- `%` lines of another order are another source: of equal prefixes the first counts
    ∷ asked ("%ea:192.0" ∷ "%we:192.0" ∷ hosts) east_client 1 ("h" ∷ "b" ∷ []) (address 86400 1)
    ∷ asked ("%we:192.0" ∷ "%ea:192.0" ∷ hosts) east_client 1 ("h" ∷ "b" ∷ []) (address 86400 2)
    -- up to the changeover the lifetime alone changes, and behind it nothing does
    ∷ asked changes east_client (change_at - 5) ("w" ∷ "b" ∷ []) (address 5 234)
    ∷ asked changes east_client (change_at - 1) ("w" ∷ "b" ∷ []) (address 2 234)
    ∷ asked changes east_client change_at ("w" ∷ "b" ∷ []) (address 86400 235)
    ∷ asked changes east_client (change_at + 5) ("w" ∷ "b" ∷ []) (address 86400 235)
    ∷ []

-- ---- whether no time lies after the earlier moment and not after the later
unfoldable pub quiet_rows : List (List String × ℕ × ℕ × Bool)
quiet_rows =
    (changes, change_at - 5, change_at - 1, true)
    ∷ (changes, change_at - 1, change_at, false)
    ∷ (changes, change_at, change_at, true)
    ∷ (changes, change_at, change_at + 5, true)
    ∷ (changes, 0, change_at + 5, false)
    ∷ (both, 0, change_at + 5, true)
    ∷ ("#w.b:192.0.2.234:0:4000000038af1379" ∷ [], 0, change_at + 5, true)
    ∷ []

-- ---- which records of a source end, in turn
unfoldable pub ends_rows : List (List String × List Bool)
ends_rows = (
  "+w.b:192.0.2.1:0:4000000038af1379" ∷ "+w.b:192.0.2.1::4000000038af1379" ∷ "+w.b:192.0.2.1:0" ∷ "+w.b:192.0.2.1" ∷ [],
  true ∷ false ∷ false ∷ false ∷ [],
)
    -- an SOA and an NS record each
    ∷ (
      ".b:::0:4000000038af1379" ∷ ".b:::5:4000000038af1379" ∷ ".b:::0" ∷ [],
      true ∷ true ∷ false ∷ false ∷ false ∷ false ∷ [],
    )
    ∷ ("%ea" ∷ [], false ∷ [])
    ∷ []

-- ---- which records of `both` matter to a name, in turn
unfoldable pub matters_rows : List (List String × List Bool)
matters_rows =
    ("h" ∷ "b" ∷ [], true ∷ true ∷ true ∷ true ∷ true ∷ true ∷ false ∷ false ∷ true ∷ true ∷ true ∷ [])
    ∷ ("x" ∷ "s" ∷ "b" ∷ [], true ∷ true ∷ true ∷ false ∷ false ∷ false ∷ true ∷ true ∷ true ∷ true ∷ true ∷ [])
    ∷ ("b" ∷ [], true ∷ true ∷ true ∷ false ∷ false ∷ false ∷ false ∷ false ∷ true ∷ false ∷ false ∷ [])
    ∷ ([], true ∷ false ∷ false ∷ false ∷ false ∷ false ∷ false ∷ false ∷ true ∷ false ∷ false ∷ [])
    ∷ []

-- ---- every question from the east is answered alike by both sources, by `OtherTownsAreUnseen`
unfoldable pub EastIsToldTheSame : Type 0
EastIsToldTheSame =
    (name : List ℕ) (type moment : ℕ)
    → let q : Question = record { name = name; type = type; client = east_client; moment = moment } in
    SameResult (result_from (source_records 7 (source_of both)) q) (result_from (source_records 7 (source_of east_alone)) q)

pub record TownExamplesHold : Type 0 where
  pub lines : map counted_of counted_rows ≡ map expected_of counted_rows
  pub told : map told_by asked_rows ≡ map (λ r. r.told) asked_rows
  pub times : map (λ r. quiet r.1 r.2 (source_of r.0)) quiet_rows ≡ map (λ r. r.3) quiet_rows
  pub endings : map (λ r. map ends (source_records 7 (source_of r.0))) ends_rows ≡ map (λ r. r.1) ends_rows
  pub names :
      map (λ r. map (matters (wire r.0)) (source_records 7 (source_of both))) matters_rows
      ≡ map (λ r. r.1) matters_rows
