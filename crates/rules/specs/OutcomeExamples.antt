-- 02, W8: worked examples of every outcome, as one table under one statement, `outcome_examples_hold`.
use Rattle.std.specs.Prelude.{ℕ, zero, suc, ◌≡◌, List, [], ◌∷◌, map, length, replicate}
use Prim.Native.String.{String}
use Rattle.rules.specs.Answers.{source_records}
use Rattle.rules.specs.Bytes.{bytes_of}
use Rattle.rules.specs.Questions.{Question}
use Rattle.rules.specs.Reading.{response_numbers, ask_response}
use Rattle.rules.specs.Bench.{source_of, wire}

-- a source of lines, a question to its records, and the six numbers at the ordinals from 0 on
pub record Row : Type 0 where
  pub lines : List String
  pub question : Question
  pub told : List (List ℕ)

unfoldable pub told_from : List ℕ → Question → ℕ → ℕ → List (List ℕ)
told_from stream q ordinal zero = []
told_from stream q ordinal (suc count) = response_numbers (ask_response stream q ordinal) ∷ told_from stream q (suc ordinal) count

unfoldable pub told_of : Row → List (List ℕ)
told_of r = told_from (bytes_of (source_records 7 (source_of r.lines))) r.question 0 (length r.told)

-- a question of the client 192.0.2.9 at moment 1
unfoldable pub asks : List String → ℕ → Question
asks name type = record { name = wire name; type = type; client = 192 ∷ 0 ∷ 2 ∷ 9 ∷ []; moment = 1 }

unfoldable pub row : List String → Question → List (List ℕ) → Row
row lines question told = record { lines = lines; question = question; told = told }

-- a record: its type, lifetime, place and length, with the outcome; and no more, with the outcome
unfoldable pub found : ℕ → ℕ → ℕ → ℕ → ℕ → List ℕ
found type lifetime place count outcome = 0 ∷ type ∷ lifetime ∷ place ∷ count ∷ outcome ∷ []

unfoldable pub none : ℕ → List ℕ
none outcome = 18 ∷ 0 ∷ 0 ∷ 0 ∷ 0 ∷ outcome ∷ []

unfoldable pub one : ℕ → ℕ → ℕ → ℕ → ℕ → List (List ℕ)
one type lifetime place count outcome = found type lifetime place count outcome ∷ none outcome ∷ []

unfoldable pub nothing : ℕ → List (List ℕ)
nothing outcome = none outcome ∷ none outcome ∷ []

-- a zone with a delegation, an address below it, wildcards in the zone and above it, and a host
unfoldable pub town : List String
town =
    ".b:192.0.2.1:a" ∷ "&sub.b:192.0.2.2:c" ∷ "&sub.b:192.0.2.3:d" ∷ "+x.sub.b:192.0.2.4" ∷ "+*.b:192.0.2.5" ∷ "+*:192.0.2.6" ∷ "+h.b:192.0.2.7" ∷ []

unfoldable pub referral : List (List ℕ)
referral = found 2 259200 167 12 2 ∷ found 2 259200 248 12 2 ∷ none 2 ∷ []

-- asked from another client or at another moment
unfoldable pub from : List ℕ → Question → Question
from client q = record { name = q.name; type = q.type; client = client; moment = q.moment }

unfoldable pub at : ℕ → Question → Question
at moment q = record { name = q.name; type = q.type; client = q.client; moment = moment }

unfoldable pub starts : List String
starts = ".b" ∷ "&s.b::x.y::4000000038af1379" ∷ "+*.b:192.0.2.5" ∷ []

unfoldable pub ends : List String
ends = ".b" ∷ "&s.b::x.y:0:4000000038af1379" ∷ "+*.b:192.0.2.5" ∷ []

unfoldable pub two_sides : List String
two_sides = ".b" ∷ ".s.b::i:::in" ∷ "&s.b::e:::ex" ∷ "%in:192.168" ∷ "%ex" ∷ "+h.s.b:192.0.2.5" ∷ []

unfoldable pub other_soas : List String
other_soas = "Z*.b:m:r" ∷ "&b::x.y" ∷ "Zs.b:m:r" ∷ []

unfoldable pub delegated : List String
delegated = ".b" ∷ "&s.b::x.y" ∷ "+s.b:192.0.2.1" ∷ "+*.s.b:192.0.2.2" ∷ []

unfoldable pub rows : List Row
rows =
    row town (asks ("h" ∷ "b" ∷ []) 1) (one 1 86400 421 4 3)
    ∷ row town (asks ("h" ∷ "b" ∷ []) 255) (one 1 86400 421 4 3)
    ∷ row town (asks ("h" ∷ "b" ∷ []) 16) (nothing 4)
    ∷ row town (asks ("q" ∷ "b" ∷ []) 16) (nothing 4)
    ∷ row town (asks ("b" ∷ []) 1) (nothing 4)
    ∷ row town (asks ("q" ∷ "b" ∷ []) 1) (one 1 86400 361 4 3)
    ∷ row town (asks ("ns" ∷ "b" ∷ []) 1) (one 1 86400 361 4 3)
    ∷ row town (asks ("b" ∷ []) 2) (one 2 259200 94 8 3)
    ∷ row town (asks ("b" ∷ []) 255) (found 6 2560 26 42 3 ∷ found 2 259200 94 8 3 ∷ none 3 ∷ [])
    ∷ row town (asks ("sub" ∷ "b" ∷ []) 1) referral
    ∷ row town (asks ("sub" ∷ "b" ∷ []) 2) referral
    ∷ row town (asks ("sub" ∷ "b" ∷ []) 255) referral
    ∷ row town (asks ("x" ∷ "sub" ∷ "b" ∷ []) 1) referral
    ∷ row town (asks ("c" ∷ "ns" ∷ "sub" ∷ "b" ∷ []) 1) referral
    ∷ row town (asks ("c" ∷ []) 1) (nothing 1)
    ∷ row town (asks [] 255) (nothing 1)
    -- a name that only has names below it
    ∷ row (".b" ∷ "+h.k.b:192.0.2.7" ∷ []) (asks ("k" ∷ "b" ∷ []) 1) (nothing 5)
    -- a wildcard's NS answers, and makes no control name
    ∷ row (".b" ∷ "&*.b::x.y" ∷ []) (asks ("q" ∷ "b" ∷ []) 2) (one 2 259200 124 5 3)
    ∷ row (".b" ∷ "&*.b::x.y" ∷ []) (asks ("q" ∷ "b" ∷ []) 1) (nothing 4)
    ∷ row ("&*.b::x.y" ∷ []) (asks ("q" ∷ "b" ∷ []) 2) (nothing 1)
    -- an SOA alone makes no control name; with an NS beside it, a zone
    ∷ row ("Zb:m:r" ∷ "+q.b:192.0.2.1" ∷ []) (asks ("b" ∷ []) 6) (nothing 1)
    ∷ row ("Zb:m:r" ∷ "&b::x.y" ∷ "+q.b:192.0.2.1" ∷ []) (asks ("q" ∷ "b" ∷ []) 1) (one 1 86400 111 4 3)
    -- a delegation that starts, and one that ends
    ∷ row starts (at 0x4000000038af1378 (asks ("q" ∷ "s" ∷ "b" ∷ []) 1)) (one 1 86400 157 4 3)
    ∷ row starts (at 0x4000000038af1379 (asks ("q" ∷ "s" ∷ "b" ∷ []) 1)) (one 2 259200 126 5 2)
    ∷ row ends (at 0x4000000038af1378 (asks ("q" ∷ "s" ∷ "b" ∷ []) 1)) (one 2 2 126 5 2)
    -- a zone for those inside, a delegation for all others
    ∷ row two_sides (from (192 ∷ 168 ∷ 1 ∷ 1 ∷ []) (asks ("h" ∷ "s" ∷ "b" ∷ []) 1)) (one 1 86400 310 4 3)
    ∷ row two_sides (asks ("h" ∷ "s" ∷ "b" ∷ []) 1) (one 2 259200 244 10 2)
    ∷ row ("Zb:m:r::::::::in" ∷ "&b::x.y" ∷ "%in:192.168" ∷ "+h.b:192.0.2.5" ∷ []) (asks ("h" ∷ "b" ∷ []) 1) (one 2 259200 80 5 2)
    -- the root delegated, and the root as a zone
    ∷ row ("&:192.0.2.1:a" ∷ "+h:192.0.2.5" ∷ []) (asks ("h" ∷ []) 1) (one 2 259200 24 6 2)
    ∷ row ("." ∷ "+*:192.0.2.5" ∷ []) (asks ("h" ∷ []) 1) (one 1 86400 112 4 3)
    ∷ row ("." ∷ "+*:192.0.2.5" ∷ []) (asks [] 1) (nothing 4)
    -- a label that holds another name's wire form; letter case
    ∷ row town (record { name = 3 ∷ 120 ∷ 1 ∷ 98 ∷ 0 ∷ []; type = 1; client = 192 ∷ 0 ∷ 2 ∷ 9 ∷ []; moment = 1 }) (nothing 1)
    ∷ row town (asks ("H" ∷ "B" ∷ []) 1) (one 1 86400 421 4 3)
    -- a wildcard's SOA and one below make no zone
    ∷ row other_soas (asks ("q" ∷ "b" ∷ []) 1) (one 2 259200 78 5 2)
    ∷ row other_soas (asks ("s" ∷ "b" ∷ []) 6) (one 2 259200 78 5 2)
    -- nothing else that stands at a delegation or below it is answered
    ∷ row delegated (asks ("s" ∷ "b" ∷ []) 1) (one 2 259200 126 5 2)
    ∷ row delegated (asks ("q" ∷ "s" ∷ "b" ∷ []) 1) (one 2 259200 126 5 2)
    -- not ours, whatever the name has; nor is anything of no records
    ∷ row ("Zb:m:r" ∷ "+q.b:192.0.2.1" ∷ []) (asks ("q" ∷ "b" ∷ []) 16) (nothing 1)
    ∷ row ("Zb:m:r" ∷ "+q.b:192.0.2.1" ∷ []) (asks ("q" ∷ "b" ∷ []) 1) (nothing 1)
    ∷ row [] (asks ("b" ∷ []) 1) (nothing 1)
    -- an alias is a type like others; a name asked with the label `*` has no records of its own
    ∷ row (".b" ∷ "Cc.b:d" ∷ []) (asks ("c" ∷ "b" ∷ []) 1) (nothing 4)
    ∷ row (".b" ∷ "&*.f.b::x.y" ∷ []) (asks ("*" ∷ "f" ∷ "b" ∷ []) 1) (nothing 4)
    -- a delegation for others alone; a client of 16 bytes is at the empty prefix
    ∷ row (".b" ∷ "&t.b::y.x:::in" ∷ "%in:192.168" ∷ "+*.b:192.0.2.5" ∷ []) (asks ("q" ∷ "t" ∷ "b" ∷ []) 1) (one 1 86400 173 4 3)
    ∷ row two_sides (from (192 ∷ 168 ∷ replicate 14 0) (asks ("h" ∷ "s" ∷ "b" ∷ []) 1)) (one 2 259200 244 10 2)
    ∷ []

unfoldable pub OutcomeExamplesHold : Type 0
OutcomeExamplesHold = map told_of rows ≡ map (λ r. r.told) rows
