-- What a name server's index rests on: "an answer depends only on the location records and on the records whose owner is
-- the asked name, one of its ancestors, or a wildcard of one, in their order". proofs/Index.antt proves it.
use Rattle.std.specs.Prelude.{ℕ, ◌≤◌, ◌≡◌, Bool, true, false, ◌||◌, List, ◌∷◌, map, length, T}
use Rattle.rules.specs.Lists.{keep, any, lower}
use Rattle.rules.specs.Records.{Record, location, resource}
use Rattle.rules.specs.Bytes.{bytes_of}
use Rattle.rules.specs.Answers.{source_records}
use Rattle.rules.specs.Questions.{Question, Placed, ordinary_of, wildcard_of, ancestors, answers}
use Rattle.rules.specs.Demands.{Accepted, bytes_needed, compiled_bytes}
use Rattle.rules.specs.Towns.{result_from, SameResult, AnswerAlike}

unfoldable pub is_location : Record → Bool
is_location (location prefix lo) = true
is_location (resource owner type lo ttl time rdata) = false

-- the records that a question of a name, letters lowered, can depend on: the location records, those of the name and
-- of its ancestors, and the wildcards of its ancestors
unfoldable pub matters : List ℕ → Record → Bool
matters name r =
    is_location r || any (λ n. ordinary_of n r) (name ∷ ancestors name) || any (λ n. wildcard_of n r) (ancestors name)

unfoldable pub matters_to : Question → Record → Bool
matters_to q r = matters (map lower q.name) r

-- All others can be left out, and nothing changes, places included.
-- Rules out: a name that another one's records hide; a record below the asked name that makes it exist.
unfoldable pub OtherNamesAreUnseen : Type 0
OtherNamesAreUnseen =
    (q : Question) (ps : List Placed) → answers q (keep (λ p. matters_to q p.rec) ps) ≡ answers q ps

-- So these alone decide, in their order: whatever else stands among them, and wherever they stand.
unfoldable pub TheseAloneDecide : Type 0
TheseAloneDecide =
    (q : Question) (rs others : List Record)
    → keep (matters_to q) rs ≡ keep (matters_to q) others
    → SameResult (result_from rs q) (result_from others q)

-- The same of asking two sources, each with a serial of its own.
unfoldable pub TheseAloneAreAsked : Type 0
TheseAloneAreAsked =
    (q : Question) (ordinal serialA serialB : ℕ) (a b outA outB : List ℕ)
    → Accepted a
    → Accepted b
    → bytes_needed serialA a ≤ length outA
    → bytes_needed serialB b ≤ length outB
    → keep (matters_to q) (source_records serialA a) ≡ keep (matters_to q) (source_records serialB b)
    → AnswerAlike (compiled_bytes a serialA outA) (compiled_bytes b serialB outB) q ordinal

-- And of asking the bytes of any choice of a source's records that has at least these, in their order.
-- Rules out: an answer that needs the whole stream.
unfoldable pub AnIndexIsEnough : Type 0
AnIndexIsEnough =
    (q : Question) (ordinal serial : ℕ) (source out : List ℕ) (chosen : Record → Bool)
    → Accepted source
    → bytes_needed serial source ≤ length out
    → ((r : Record) → T (matters_to q r) → T (chosen r))
    → AnswerAlike (compiled_bytes source serial out) (bytes_of (keep chosen (source_records serial source))) q ordinal
