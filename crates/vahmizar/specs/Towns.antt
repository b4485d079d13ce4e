-- 02, W14, of the calls that exist: what calls of tinydns_ask on compiled bytes have to do with each other. It follows
-- from `Compiles` and `Asks`, so from what each call promises by itself. The definitions are those of `rules`, with the
-- statements about sources.
use Rattle.std.specs.Prelude.{ℕ, ◌*◌, ◌≤◌, ◌<◌, ◌≡◌, Bool, List, length, take, drop, T, Option}
use Rattle.rules.specs.Lists.{keep, from_le}
use Rattle.rules.specs.Records.{Record}
use Rattle.rules.specs.Bytes.{bytes_of}
use Rattle.rules.specs.Answers.{source_records}
use Rattle.rules.specs.Questions.{Question, Placed}
use Rattle.rules.specs.Reading.{moment_end}
use Rattle.rules.specs.Demands.{Accepted}
use Rattle.rules.specs.Towns.{SameFor}
use Rattle.rules.specs.Moments.{quiet, asked_at, lasts, handed_out}
use Rattle.rules.specs.Index.{matters_to}
use Rattle.vahmizar.specs.Promises.{Compiles, Asks}
use Rattle.vahmizar.specs.Joining.{Call, wrote, Roomy}

-- a call of tinydns_ask, whose answer's slice has the right length: what came out, and its promise. `Call` is the same
-- of tinydns_compile.
pub record Asking (records : List ℕ) (q : Question) (ordinal : ℕ) : Type 0 where
  pub answer : List ℕ
  pub answer' : List ℕ
  pub r : ℕ
  pub asks : Asks records q ordinal answer answer' r
  pub fits : length answer ≡ 48

-- Every call is one of these, that has such a slice and keeps its promise.
-- Rules out: a statement about some calls alone.
pub record EveryCallCounts : Type 0 where
  pub compiling :
      (source : List ℕ) (serial : ℕ) (out answer out' answer' : List ℕ) (r : ℕ)
      → Compiles source serial out answer out' answer' r → length answer ≡ 32 → Call serial
  pub asking :
      (records : List ℕ) (q : Question) (ordinal : ℕ) (answer answer' : List ℕ) (r : ℕ)
      → Asks records q ordinal answer answer' r → length answer ≡ 48 → Asking records q ordinal

-- number i of an answer, from 0: number, type, lifetime, place, length, outcome
abbrev pub number_at : ℕ → List ℕ → ℕ
number_at i answer = from_le (take 8 (drop (8 * i) answer))

-- the bytes that a call hands out: those at its answer's place, of its answer's length
abbrev pub handed_by : {records : List ℕ} {q : Question} {ordinal : ℕ} → Asking records q ordinal → List ℕ
handed_by {records} u = take (number_at 4 u.answer') (drop (number_at 3 u.answer') records)

-- ---- Two calls agree in what they return, in number, type, lifetime, length and outcome, and in the bytes handed out.
-- Bytes 24 to 31 of an answer are its place.
pub record Agree {x y : List ℕ} {q : Question} {n : ℕ} (u : Asking x q n) (v : Asking y q n) : Type 0 where
  pub returned : u.r ≡ v.r
  pub front : take 24 u.answer' ≡ take 24 v.answer'
  pub back : drop 32 u.answer' ≡ drop 32 v.answer'
  pub rdata : handed_by u ≡ handed_by v

-- "Take two accepted sources with the same default serial, the same `%` lines and the same other lines, both in the
-- same order, save those others whose lo isn't empty and isn't this client's location; each may have any of these.
-- Every question from this client then gets the same outcome and list at every moment."
-- Rules out: a reader that takes a record of another location for the level or the control name, or counts it.
unfoldable pub TheCallsHideOtherTowns : Type 0
TheCallsHideOtherTowns =
    (serial : ℕ) (x y : Call serial) (q : Question) (ordinal : ℕ)
    (u : Asking (wrote x) q ordinal) (v : Asking (wrote y) q ordinal)
    → Accepted x.source
    → Accepted y.source
    → SameFor q.client serial x.source y.source
    → Roomy x
    → Roomy y
    → Agree u v

-- What a name server's index rests on: two sources that differ only in records that don't matter to the question
-- answer it alike.
-- Rules out: an answer that needs a record of another name.
unfoldable pub TheCallsNeedNoOtherNames : Type 0
TheCallsNeedNoOtherNames =
    (serialX serialY : ℕ) (x : Call serialX) (y : Call serialY) (q : Question) (ordinal : ℕ)
    (u : Asking (wrote x) q ordinal) (v : Asking (wrote y) q ordinal)
    → Accepted x.source
    → Accepted y.source
    → Roomy x
    → Roomy y
    → keep (matters_to q) (source_records serialX x.source) ≡ keep (matters_to q) (source_records serialY y.source)
    → Agree u v

-- And asked on some of the records that were written, in their order, at least on those that matter to the question, a
-- call answers as on all of them.
-- Rules out: an answer that needs the whole stream.
unfoldable pub TheCallsTakeAnIndex : Type 0
TheCallsTakeAnIndex =
    (serial : ℕ) (x : Call serial) (q : Question) (ordinal : ℕ) (chosen : Record → Bool)
    (u : Asking (wrote x) q ordinal) (v : Asking (bytes_of (keep chosen (source_records serial x.source))) q ordinal)
    → Accepted x.source
    → Roomy x
    → ((r : Record) → T (matters_to q r) → T (chosen r))
    → Agree u v

-- ---- Two calls agree in all but the lifetime, bytes 16 to 23 of an answer, and there too if what they hand out
-- doesn't end.
pub record AgreeButLifetime {x : List ℕ} {p q : Question} {n : ℕ}
    (given : Option Placed) (u : Asking x p n) (v : Asking x q n) : Type 0 where
  pub returned : u.r ≡ v.r
  pub front : take 16 u.answer' ≡ take 16 v.answer'
  pub back : drop 24 u.answer' ≡ drop 24 v.answer'
  pub lifetime : T (lasts given) → u.answer' ≡ v.answer'

-- "if no time in it lies after the earlier moment and not after the later one, both moments give the same records,
-- only ending lifetimes apart"
-- Rules out: a reader that keeps a record a second longer, or lets one begin or end at another's time.
unfoldable pub TheCallsChangeNothingBetweenTimes : Type 0
TheCallsChangeNothingBetweenTimes =
    (serial : ℕ) (x : Call serial) (q : Question) (earlier later ordinal : ℕ)
    (u : Asking (wrote x) (asked_at earlier q) ordinal) (v : Asking (wrote x) (asked_at later q) ordinal)
    → Accepted x.source
    → Roomy x
    → earlier ≤ later
    → later < moment_end
    → T (quiet earlier later x.source)
    → AgreeButLifetime (handed_out x.source serial (asked_at later q) ordinal) u v
