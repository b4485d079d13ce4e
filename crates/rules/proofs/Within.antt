-- The data that a reply hands out lie within the stream, and an accepted source's stream isn't long.
use mathlib.Core.Path.{refl}
use Prim.Native.Nat.{ℕ, suc, ◌+◌, ◌*◌, ◌≤◌}
use native.Mathlib.Omega.{arith}
use mathlib.Core.Bool.{Bool}
use mathlib.Core.List.{List, [], ◌∷◌, map}
use Rattle.std.specs.Prelude.{Option, Some, None, slice_get}
use lib.ListN.{length}
use lib.Dec.{T, eqb}
use Rattle.rules.specs.declared.replies.AskFault.{AskFault}
use Rattle.rules.specs.declared.replies.Response.{Response}
use Rattle.rules.specs.declared.replies.Reply.{Reply}
use Rattle.rules.specs.Lists.{pick, keep, all, join_all, onto_first}
use Rattle.rules.specs.Kinds.{lines_of}
use Rattle.rules.specs.Records.{Record}
use Rattle.rules.specs.Bytes.{bytes_of, size, size_of_all}
use Rattle.rules.specs.Answers.{is_good, longest_source, line_records, source_records}
use Rattle.rules.specs.Questions.{Question, Placed, placed_from, answers}
use Rattle.rules.specs.Reading.{reply_of, response_of, response_from, refusal, ask_response}
use Rattle.rules.specs.Demands.{Accepted, bytes_needed}
use Rattle.rules.proofs.Tests.{is_true, and_l, and_r, pick_ok}
use Rattle.rules.proofs.Lists.{OnSome, All, nil, cons, all_at}
use Rattle.rules.proofs.Records.{Ok}
use Rattle.rules.proofs.Meaning.{answers_all, Held, held, sizes_add, asked_records}
use Rattle.rules.proofs.Sizes.{line_size}

-- ---- a reply's place

abbrev pub Within : ℕ → Reply → Type 0
Within limit (Reply.Found type lifetime place count) = place + count ≤ limit
Within limit Reply.NoMore = Unit {0}
Within limit (Reply.Refused fault) = Unit {0}

ends_within : (n : ℕ) (rs : List Record) (limit : ℕ) → n + size_of_all rs ≤ limit
    → All (λ p. p.end ≤ limit) (placed_from n rs)
unfolding placed_from size_of_all
ends_within n [] limit h = nil
ends_within n (r ∷ rs) limit h =
    cons {x = record { rec = r; end = n + size r }} (omega arith) (ends_within (n + size r) rs limit (omega arith))

found_within : (stream : List ℕ) (limit moment : ℕ) (o : Option Placed) → OnSome (Held stream) o
    → OnSome (λ p. p.end ≤ limit) o → Within limit (reply_of moment o)
unfolding reply_of Held
found_within stream limit moment None h k = tt
found_within stream limit moment (Some p) h k = omega (arith, h.1)

refused_within : (limit : ℕ) (b : Bool) (f : AskFault) (r : Response) → Within limit r.reply
    → Within limit (pick b (refusal f) r).reply
unfolding refusal
refused_within limit b f r h = pick_ok (λ (x : Response). Within limit x.reply) b (λ t. tt) (λ t. h)

pub asked_within : (q : Question) (n : ℕ) (limit : ℕ) {rs : List Record} → All Ok rs → size_of_all rs ≤ limit
    → Within limit (ask_response (bytes_of rs) q n).reply
unfolding response_from response_of
asked_within q n limit {rs} ok h =
    let list : List Placed = (answers q (placed_from 0 rs)).list in
    let reply =
    found_within (bytes_of rs) limit q.moment (slice_get list n) (all_at n (answers_all q (held [] 0 rs refl)))
    (all_at n (answers_all q (ends_within 0 rs limit (omega arith)))) in
    rw (asked_records q n ok)
    (refused_within limit _ _ _ (refused_within limit _ _ _ (refused_within limit _ _ _ reply)))

-- ---- the bytes of an accepted source

lines_size : (serial : ℕ) (ls : List (List ℕ)) → T (all is_good ls)
    → size_of_all (join_all (map (line_records serial) ls)) ≤ length ls * 16384
unfolding join_all all size_of_all
lines_size serial [] t = omega arith
lines_size serial (l ∷ ls) t =
    let one : size_of_all (line_records serial l) ≤ 16384 =
    line_size serial l (is_true (is_good l) (and_l (is_good l) (all is_good ls) t)) in
    omega
    (arith, one, sizes_add (line_records serial l) (join_all (map (line_records serial) ls)), lines_size serial ls (and_r (is_good l) (all is_good ls) t))

onto_length : (b : ℕ) (ls : List (List ℕ)) → length (onto_first b ls) ≤ suc (length ls)
unfolding onto_first
onto_length b [] = omega arith
onto_length b (l ∷ ls) = omega arith

-- a line takes a byte at least
lines_few : (s : List ℕ) → length (lines_of s) ≤ length s
unfolding lines_of
lines_few [] = omega arith
lines_few (b ∷ s) =
    pick_ok (λ (ls : List (List ℕ)). length ls ≤ suc (length s)) (eqb b 10)
    (λ t. omega (arith, lines_few s))
    (λ t. omega (arith, onto_length b (lines_of s), lines_few s))

-- 16,384 bytes for each of 1,048,576 lines
abbrev pub most_needed : ℕ
most_needed = 17179869184

pub needed_few : (serial : ℕ) (source : List ℕ) → Accepted source → bytes_needed serial source ≤ most_needed
unfolding bytes_needed source_records Accepted longest_source
needed_few serial source a =
    omega (arith, lines_size serial (lines_of source) a.1, lines_few source, a.0)

-- a choice of records takes no more
pub kept_few : (chosen : Record → Bool) (rs : List Record) → size_of_all (keep chosen rs) ≤ size_of_all rs
unfolding keep size_of_all
kept_few chosen [] = omega arith
kept_few chosen (r ∷ rs) =
    pick_ok (λ (ks : List Record). size_of_all ks ≤ size r + size_of_all rs) (chosen r)
    (λ t. omega (arith, kept_few chosen rs))
    (λ t. omega (arith, kept_few chosen rs))
