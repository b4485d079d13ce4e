-- Compiling keeps the meaning of the lines.
use mathlib.Core.Path.{◌≡◌, refl, sym, ap, ◌∙◌, subst}
use mathlib.Core.Logic.{◌⊎◌, inl, inr}
use Prim.Native.Nat.{ℕ, ◌+◌, ◌-◌, ◌≤◌, ◌<◌}
use native.Mathlib.Omega.{arith}
use mathlib.Core.Bool.{Bool, true, false, not, ◌||◌}
use mathlib.Core.List.{List, [], ◌∷◌, ◌++◌, map, append_assoc}
use Rattle.std.specs.Prelude.{Option, Some, None, slice_get}
use lib.ListN.{length, take, drop, length-append}
use lib.Seq.{take_at, take-append_seam, drop-append_seam}
use lib.Dec.{T, leb, eqb}
use lib.Arith.{lt→nleb}
use Rattle.rules.specs.declared.faults.Fault.{Fault}
use Rattle.rules.specs.declared.replies.AskFault.{AskFault}
use Rattle.rules.specs.Lists.{pick, keep, all, join_all, le}
use Rattle.rules.specs.Kinds.{lines_of}
use Rattle.rules.specs.Names.{is_wire}
use Rattle.rules.specs.Records.{Record}
use Rattle.rules.specs.Bytes.{key_of, rdata_of, fixed_of, data_of, encode, size, size_of_all, bytes_of}
use Rattle.rules.specs.Answers.{is_done, is_good, line_records, source_records, answer, compile_answer, compile_output}
use Rattle.rules.specs.Questions.{Placed, placed_from, Question, wildcard_of, ancestors_to, first_full, level, ordinary_of_type, Result, by_level, in_zone, by_control, answers}
use Rattle.rules.specs.Reading.{moment_end, is_client, reply_of, response_of, response_from, refusal, response_decoded, ask_response}
use Rattle.rules.specs.Demands.{Accepted, bytes_needed, CompilingRefusesExactly, compiled_bytes, Gives, Tells, CompilingKeepsTheMeaning}
use Rattle.rules.proofs.Tests.{pick_ok, pick_no, and_l, and_r}
use Rattle.rules.proofs.Lists.{OnSome, All, nil, cons, all_append, all_keep, all_at, all_map}
use Rattle.rules.proofs.Records.{Ok, line_ok}
use Rattle.rules.proofs.Decoding.{decode_back, size_is}
use Rattle.rules.proofs.Lowering.{from_lower}
use Rattle.rules.proofs.Refusals.{refuses_exactly}

-- ---- the records of an accepted source

lines_ok : (serial : ℕ) (ls : List (List ℕ)) → T (all is_good ls) → All Ok (join_all (map (line_records serial) ls))
unfolding join_all all
lines_ok serial [] t = nil
lines_ok serial (l ∷ ls) t = all_append (line_ok serial l (and_l (is_good l) (all is_good ls) t)) (lines_ok serial ls (and_r (is_good l) (all is_good ls) t))

pub source_ok : (serial : ℕ) (source : List ℕ) → Accepted source → All Ok (source_records serial source)
unfolding source_records Accepted
source_ok serial source a = lines_ok serial (lines_of source) a.1

pub length_bytes : (rs : List Record) → length (bytes_of rs) ≡ size_of_all rs
unfolding bytes_of join_all size_of_all
length_bytes [] = refl
length_bytes (r ∷ rs) = simp length-append (omega (arith, size_is r, length_bytes rs))

pub sizes_add : (xs ys : List Record) → size_of_all (xs ++ ys) ≡ size_of_all xs + size_of_all ys
unfolding size_of_all
sizes_add [] ys = omega arith
sizes_add (x ∷ xs) ys = omega (arith, sizes_add xs ys)

-- ---- an answer is one of the records

first_all : {P : Placed → Type 0} {ls : List (List Placed)} → All (All P) ls → All P (first_full ls)
unfolding first_full
first_all nil = nil
first_all (cons {x = []} h a) = first_all a
first_all (cons {x = p ∷ ps} h a) = h

level_all : {P : Placed → Type 0} (c n : List ℕ) {ps : List Placed} → All P ps → All P (level c n ps)
unfolding level
level_all c n {ps} a = first_all (cons (all_keep _ a) (all_map (λ m. keep (λ p. wildcard_of m p.rec) ps) (ancestors_to c n) (λ m. all_keep _ a)))

by_level_all : {P : Placed → Type 0} (ps : List Placed) {ws : List Placed} → All P ws → All P (by_level ps ws).list
unfolding by_level
by_level_all [] a = nil
by_level_all (p ∷ ps) nil = nil
by_level_all (p ∷ ps) (cons h a) = cons h a

by_control_all : {P : Placed → Type 0} (t : ℕ) (n : List ℕ) {ps : List Placed} (c : Option (List ℕ)) → All P ps → All P (by_control t n ps c).list
unfolding by_control in_zone ordinary_of_type
by_control_all t n None a = nil
by_control_all {P} t n {ps} (Some c) a =
    pick_ok (λ (r : Result). All P r.list) _ (λ h. by_level_all (level c n ps) (all_keep _ (level_all c n a))) (λ h. all_keep _ a)

pub answers_all : {P : Placed → Type 0} (q : Question) {ps : List Placed} → All P ps → All P (answers q ps).list
unfolding answers
answers_all q a = by_control_all _ _ _ (all_keep _ a)

-- ---- the place of a record's data

cut : (pre h x rest : List ℕ) (n : ℕ) → n ≡ length pre + (length h + length x) → take (length x) (drop (n - length x) (pre ++ (h ++ x ++ rest))) ≡ x
cut pre h x rest n e =
    let is : n - length x ≡ length (pre ++ h) = simp length-append (omega arith) in
    let b : pre ++ (h ++ x ++ rest) ≡ pre ++ h ++ (x ++ rest) = simp append_assoc in
    rw (is, b, drop-append_seam, take-append_seam)

-- at its place stand a record's data, and there it ends
unfoldable pub Held : List ℕ → Placed → Type 0
Held b p = (take (length (rdata_of p.rec)) (drop (p.end - length (rdata_of p.rec)) b) ≡ rdata_of p.rec) × (p.end - length (rdata_of p.rec) + length (rdata_of p.rec) ≡ p.end)

held_here : (pre : List ℕ) (n : ℕ) (r : Record) (rest : List ℕ) → n ≡ length pre → Held (pre ++ (encode r ++ rest)) (record { rec = r; end = n + size r })
unfolding Held encode data_of
held_here pre n r rest e =
    let h : List ℕ = le 4 (length (key_of r)) ++ le 4 (length (data_of r)) ++ key_of r in
    let is : encode r ≡ h ++ fixed_of r ++ rdata_of r = sym (append_assoc h (fixed_of r) (rdata_of r)) in
    let long : size r ≡ length (h ++ fixed_of r) + length (rdata_of r) = sym (size_is r) ∙ ap length is ∙ length-append (h ++ fixed_of r) (rdata_of r) in (
      subst (λ (b : List ℕ). take (length (rdata_of r)) (drop (n + size r - length (rdata_of r)) (pre ++ (b ++ rest))) ≡ rdata_of r) (sym is)
          (cut pre (h ++ fixed_of r) (rdata_of r) rest (n + size r) (omega arith)),
      omega arith,
    )

pub held : (pre : List ℕ) (n : ℕ) (rs : List Record) → n ≡ length pre → All (Held (pre ++ bytes_of rs)) (placed_from n rs)
unfolding placed_from bytes_of join_all
held pre n [] e = nil
held pre n (r ∷ rs) e =
    cons (held_here pre n r (bytes_of rs) e)
    (rw (append_assoc pre (encode r) (bytes_of rs)) at (held (pre ++ encode r) (n + size r) rs (simp length-append (omega (arith, size_is r)))))

-- ---- the demand

-- asking what records were written to, by the records
pub asked_records : (q : Question) (n : ℕ) {rs : List Record} → All Ok rs
    → ask_response (bytes_of rs) q n
    ≡ pick (not (is_wire q.name)) (refusal AskFault.Name)
    (pick (leb moment_end q.moment) (refusal AskFault.Moment)
    (pick (not (is_client q.client)) (refusal AskFault.Client) (response_from rs q n)))
unfolding ask_response response_decoded
asked_records q n {rs} ok = rw (decode_back ok, from_lower q n rs)

asked : (q : Question) (n : ℕ) {rs : List Record} → All Ok rs → T (is_wire q.name) → q.moment < moment_end
    → (length q.client ≡ 4) ⊎ (length q.client ≡ 16) → ask_response (bytes_of rs) q n ≡ response_from rs q n
unfolding is_client
asked q n ok name moment client =
    asked_records q n ok
    ∙ pick_no _ _ _ (not_not (is_wire q.name) name)
    ∙ pick_no _ _ _ (lt→nleb moment_end q.moment moment)
    ∙ pick_no _ _ _ (not_not (eqb (length q.client) 4 || eqb (length q.client) 16) (either client))
  where
    not_not : (b : Bool) → T b → T (not (not b))
    not_not true t = tt
    not_not false t = t

    either : (length q.client ≡ 4) ⊎ (length q.client ≡ 16) → T (eqb (length q.client) 4 || eqb (length q.client) 16)
    either (inl e) = rw e tt
    either (inr e) = rw e tt

-- exactly the records' bytes are written and counted
pub written : (source : List ℕ) (serial : ℕ) (out : List ℕ) → Accepted source → bytes_needed serial source ≤ length out → compiled_bytes source serial out ≡ bytes_of (source_records serial source)
unfolding CompilingRefusesExactly compiled_bytes compile_output bytes_needed answer is_done pick
written source serial out a room =
    let e : compile_answer source serial (length out) ≡ answer Fault.Done 0 0 (bytes_needed serial source) = (refuses_exactly source serial (length out)).done a room in
    rw e (take_at (bytes_of (source_records serial source)) _ _ (length_bytes (source_records serial source)))

gives : (stream : List ℕ) (q : Question) (o : Option Placed) → OnSome (Held stream) o → Gives stream q.moment o (reply_of q.moment o)
unfolding reply_of Held
gives stream q None h = refl
gives stream q (Some p) h = record { place = _; count = _; found = refl; rdata = h.0; ends = h.1 }

pub keeps_the_meaning : CompilingKeepsTheMeaning
unfolding CompilingKeepsTheMeaning response_from response_of
keeps_the_meaning source serial out q n a room name moment client =
    let rs : List Record = source_records serial source in
    let list : List Placed = (answers q (placed_from 0 rs)).list in
    let same : ask_response (bytes_of rs) q n ≡ response_from rs q n = asked q n (source_ok serial source a) name moment client in
    rw (written source serial out a room)
    (subst (Tells (bytes_of rs) rs q n) (sym same) (record { outcome = refl; list = gives (bytes_of rs) q (slice_get list n) (all_at n (answers_all q (held [] 0 rs refl))) }))
