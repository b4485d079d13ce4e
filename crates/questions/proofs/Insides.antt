-- The data that asking hands out lie within the bytes asked.
use mathlib.Core.Path.{◌≡◌, refl}
use mathlib.Core.Bool.{not}
use mathlib.Core.List.{List, [], ◌∷◌}
use Rattle.std.specs.Prelude.{Option, Some, None, slice_get}
use Prim.Native.Nat.{ℕ, zero, suc, ◌+◌, ◌≤◌}
use native.Mathlib.Omega.{arith}
use lib.Dec.{leb}
use lib.ListN.{length, take, drop, length-append, length-take, length-drop}
use Rattle.rules.specs.Lists.{from_le}
use Rattle.rules.specs.Names.{is_wire}
use Rattle.rules.specs.Records.{Record}
use Rattle.rules.specs.Bytes.{data_of, rdata_of, size, size_of_all}
use Rattle.rules.specs.Questions.{Question, Placed, placed_from, answers}
use Rattle.rules.specs.Reading.{onto_records, decode_one, decode_from, decode, reply_of, response_of, response_from, response_decoded, refusal, moment_end, is_client, ask_response}
use Rattle.rules.proofs.Tests.{pick_ok, tests}
use Rattle.rules.proofs.Lists.{OnSome, All, nil, cons, all_at}
use Rattle.rules.proofs.Meaning.{answers_all}
use Rattle.judge.proofs.Shapes.{Shape, shape, size_is}
use Rattle.rules.specs.declared.quantities.Ttl.{Ttl}
use Rattle.rules.specs.declared.replies.Reply.{Reply}
use Rattle.rules.specs.declared.replies.Response.{Response}
use Rattle.questions.specs.Places.{Inside}
use Rattle.questions.specs.Replies.{line_reply}

-- ---- the records of a stream take all its bytes

onto : (key rdata : List ℕ) (rest n : ℕ) (a : Option Record) (b : Option (List Record)) → OnSome (Shape key rdata) a → OnSome (λ rs. size_of_all rs ≡ rest) b
    → 8 + length key + length rdata + rest ≡ n → OnSome (λ rs. size_of_all rs ≡ n) (onto_records a b)
unfolding onto_records size_of_all
onto key rdata rest n None b s h e = tt
onto key rdata rest n (Some r) None s h e = tt
onto key rdata rest n (Some r) (Some rs) s h e = omega (arith, size_is key rdata r s)

three_parts : (k d : ℕ) (xs : List ℕ) → length (take k xs) + length (take d (drop k xs)) + length (drop d (drop k xs)) ≡ length xs
three_parts k d xs = simp (length-take, length-drop) (omega arith)

sized : (count : ℕ) (s : List ℕ) → OnSome (λ rs. size_of_all rs ≡ length s) (decode_from count s)
unfolding decode_from decode_one size_of_all
sized zero [] = refl
sized zero (b ∷ bs) = tt
sized (suc count) [] = refl
sized (suc count) (b ∷ bs) =
    let all = b ∷ bs in
    let k = from_le (take 4 all) in
    let d = from_le (take 4 (drop 4 all)) in
    let rest = drop 8 all in
    pick_ok (OnSome (λ rs. size_of_all rs ≡ length all)) (leb 8 (length all))
    (λ t. pick_ok (OnSome (λ rs. size_of_all rs ≡ length all)) (leb (k + d) (length rest))
    (λ u. onto (take k rest) (take d (drop k rest)) (length (drop d (drop k rest))) (length all) _ _ (shape (take k rest) (take d (drop k rest)))
    (sized count (drop d (drop k rest)))
    (let h : 8 ≤ length (b ∷ bs) = search tests in omega (arith, three_parts k d rest, length-drop 8 (b ∷ bs))))
    (λ u. tt))
    (λ t. tt)

-- ---- so each ends within them

abbrev Ends : ℕ → Placed → Type 0
Ends n p = (p.end ≤ n) × (length (rdata_of p.rec) ≤ p.end)

record_ends : (r : Record) → length (rdata_of r) ≤ size r
unfolding size data_of
record_ends r = simp length-append (omega arith)

placed_ends : (at n : ℕ) (rs : List Record) → at + size_of_all rs ≤ n → All (Ends n) (placed_from at rs)
unfolding placed_from size_of_all
placed_ends at n [] h = nil
placed_ends at n (r ∷ rs) h =
    let e : Ends n (record { rec = r; end = at + size r }) = (omega arith, omega (arith, record_ends r)) in cons e (placed_ends (at + size r) n rs (omega arith))

-- ---- and so does a reply

module _ (stream : List ℕ) (q : Question) (ordinal : ℕ) where
  reply_inside : (p : Option Placed) → OnSome (Ends (length stream)) p → Inside stream (reply_of q.moment p)
  unfolding reply_of
  reply_inside None h = tt
  reply_inside (Some p) h = omega (arith, h.0, h.1)

  decoded_inside : (o : Option (List Record)) → OnSome (λ rs. size_of_all rs ≡ length stream) o → Inside stream (response_decoded o q ordinal).reply
  unfolding response_decoded response_from response_of refusal
  decoded_inside None h = tt
  decoded_inside (Some rs) h =
      reply_inside (slice_get (answers q (placed_from 0 rs)).list ordinal)
      (all_at ordinal (answers_all q (placed_ends 0 (length stream) rs (omega (arith, h)))))

  abbrev In : Response → Type 0
  In r = Inside stream r.reply

  pub inside : Inside stream (ask_response stream q ordinal).reply
  unfolding ask_response decode refusal
  inside =
      pick_ok In (not (is_wire q.name)) (λ t. tt)
      (λ t. pick_ok In (leb moment_end q.moment) (λ t. tt)
      (λ t. pick_ok In (not (is_client q.client)) (λ t. tt)
      (λ t. decoded_inside (decode_from (length stream) stream) (sized (length stream) stream))))

pub answered_inside : (records : List ℕ) (question : Option Question) (ordinal : ℕ) (r : Option Response) (a : Response)
    → r ≡ line_reply records question ordinal → r ≡ Some a → Inside records a.reply
answered_inside records None ordinal r a e f = absurd (let z : ◌≡◌ {A = ℕ} 0 1 = cc in omega arith)
answered_inside records (Some q) ordinal r a e f = let w : ask_response records q ordinal ≡ a = cc in rw w at (inside records q ordinal)

pub found_inside : (records : List ℕ) (reply : Reply) (type : ℕ) (lifetime : Ttl) (place count : ℕ)
    → Inside records reply → reply ≡ Reply.Found type lifetime place count → place + count ≤ length records
found_inside records reply type lifetime place count h e = rw e at h
