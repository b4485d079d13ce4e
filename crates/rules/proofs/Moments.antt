-- Two moments between which no time lies give the same answers.
use mathlib.Core.Path.{◌≡◌, refl, sym, ap, ap₂, ◌∙◌, subst}
use Prim.Native.Nat.{ℕ, zero, suc, ◌+◌, ◌-◌, ◌≤◌, ◌<◌}
use native.Mathlib.Omega.{arith}
use mathlib.Core.Bool.{Bool, true, false, not, ◌&&◌, ◌||◌}
use mathlib.Core.List.{List, [], ◌∷◌, map}
use Rattle.std.specs.Prelude.{Option, Some, None, slice_get}
use mathlib.Core.Logic.{◌⊎◌, inl, inr}
use lib.ListN.{length}
use lib.Dec.{T, leb, ltb, eqb, leb→le, ltb→lt, le→leb, lt→ltb, eqb-suc-zero}
use lib.Arith.{lt→nleb, le→nltb}
use mir.Facts.{or_yes}
use Rattle.rules.specs.declared.quantities.Shared.{Shared}
use Rattle.rules.specs.declared.replies.AskFault.{AskFault}
use Rattle.rules.specs.declared.replies.Response.{Response}
use Rattle.rules.specs.declared.replies.Reply.{Reply}
use Rattle.rules.specs.Lists.{pick, keep, all, join_all, same_bytes}
use Rattle.rules.specs.Records.{Record, location, resource}
use Rattle.rules.specs.Names.{is_wire}
use Rattle.rules.specs.Bytes.{rdata_of, bytes_of, size}
use Rattle.rules.specs.Answers.{source_records}
use Rattle.rules.specs.Questions.{Question, Placed, placed_from, location_of, in_time, visible, lifetime_of, Result, answers}
use Rattle.rules.specs.Reading.{type_of, moment_end, is_client, reply_of, response_of, response_from, refusal, ask_response}
use Rattle.rules.specs.Towns.{stripped_lines, shared_in, result_from}
use Rattle.rules.specs.Moments.{quiet_line, quiet, asked_at, OnlyTheMomentChanges, ends, BetweenTimesNothingChanges, without_lifetime, lasts, SameButLifetime, handed_out, BetweenTimesAskedAlike}
use Rattle.rules.proofs.Tests.{is_true, is_false, and_l, and_r, pick_no}
use Rattle.rules.proofs.Lists.{All, nil, cons, all_append, all_weaken}
use Rattle.rules.proofs.Records.{Ok}
use Rattle.rules.proofs.Meaning.{source_ok, written, asked_records}
use Rattle.rules.proofs.Carried.{Carries, carries, Located, Says, nothing, place, shares, stripped_says}
use Rattle.rules.proofs.Towns.{records_in, records_by_lines}

both_yes : (a b : Bool) → T a → T b → a ≡ b
both_yes a b t u = is_true a t ∙ sym (is_true b u)

both_no : (a b : Bool) → T (not a) → T (not b) → a ≡ b
both_no a b t u = is_false a t ∙ sym (is_false b u)

module _ (earlier later : ℕ) (ordered : earlier ≤ later) where
  in_time_same : (ttl time : ℕ) → T (leb time earlier || ltb later time)
      → in_time earlier ttl time ≡ in_time later ttl time
  unfolding in_time
  in_time_same ttl zero t = refl
  in_time_same ttl (suc n) t = ap₂ (pick (eqb ttl 0)) (before two) (from two)
    where
      two : T (leb (suc n) earlier) ⊎ T (ltb later (suc n))
      two = or_yes (leb (suc n) earlier) (ltb later (suc n)) t

      before : T (leb (suc n) earlier) ⊎ T (ltb later (suc n)) → ltb earlier (suc n) ≡ ltb later (suc n)
      before (inl h) =
          let k : suc n ≤ earlier = leb→le _ _ h in both_no _ _ (le→nltb earlier (suc n) k) (le→nltb later (suc n) (omega arith))
      before (inr h) = let k : later < suc n = ltb→lt _ _ h in both_yes _ _ (lt→ltb earlier (suc n) (omega arith)) h

      from : T (leb (suc n) earlier) ⊎ T (ltb later (suc n)) → leb (suc n) earlier ≡ leb (suc n) later
      from (inl h) = let k : suc n ≤ earlier = leb→le _ _ h in both_yes _ _ h (le→leb (suc n) later (omega arith))
      from (inr h) =
          let k : later < suc n = ltb→lt _ _ h in both_no _ _ (lt→nleb (suc n) earlier (omega arith)) (lt→nleb (suc n) later k)

  -- a record that is seen at both moments or at none
  SameSeen : List ℕ → Record → Type 0
  SameSeen here r = visible here earlier r ≡ visible here later r

  location_same_seen : (here : List ℕ) (r : Record) → Located r → SameSeen here r
  unfolding SameSeen visible
  location_same_seen here (location p lo) h = refl
  location_same_seen here (resource _ _ _ _ _ _) h = elim h [ ]

  quiet_same_seen : (here : List ℕ) (s : Shared) (r : Record) → T (quiet_line earlier later (Some s)) → Carries s r
      → SameSeen here r
  unfolding SameSeen visible quiet_line
  quiet_same_seen here s (resource owner type lo ttl time rdata) t (carries e f) =
      ap (λ (b : Bool). (eqb (length lo) 0 || same_bytes lo here) && b) (in_time_same ttl time (rw f t))
  quiet_same_seen here s (location _ _) t c = elim c [ ]

  says_same_seen : (here : List ℕ) {rs : List Record} {b : Bool} {o : Option Shared} → Says rs b o
      → T (quiet_line earlier later o) → All (SameSeen here) rs
  says_same_seen here (nothing e) t = subst (All (SameSeen here)) (sym e) nil
  says_same_seen here (place a) t = all_weaken (location_same_seen here) a
  says_same_seen here (shares s n a) t = all_weaken (λ r c. quiet_same_seen here s r t c) a

  abbrev quiet_in : List ℕ → Bool
  quiet_in line = quiet_line earlier later (shared_in line)

  lines_same_seen : (serial : ℕ) (here : List ℕ) (ls : List (List ℕ)) → T (all quiet_in ls)
      → All (SameSeen here) (records_in serial ls)
  unfolding join_all all
  lines_same_seen serial here [] t = nil
  lines_same_seen serial here (l ∷ ls) t =
      all_append (says_same_seen here (stripped_says serial l) (and_l (quiet_in l) (all quiet_in ls) t))
      (lines_same_seen serial here ls (and_r (quiet_in l) (all quiet_in ls) t))

  source_same_seen : (serial : ℕ) (here source : List ℕ) → T (quiet earlier later source)
      → All (SameSeen here) (source_records serial source)
  unfolding quiet
  source_same_seen serial here source t =
      subst (All (SameSeen here)) (sym (records_by_lines serial source))
      (lines_same_seen serial here (stripped_lines source) t)

  placed_same_seen : (here : List ℕ) (n : ℕ) {rs : List Record} → All (SameSeen here) rs
      → All (λ p. SameSeen here p.rec) (placed_from n rs)
  unfolding placed_from
  placed_same_seen here n nil = nil
  placed_same_seen here n (cons {x = x} h a) = cons h (placed_same_seen here (n + size x) a)

  keep_same_seen : (here : List ℕ) {ps : List Placed} → All (λ p. SameSeen here p.rec) ps
      → keep (λ p. visible here earlier p.rec) ps ≡ keep (λ p. visible here later p.rec) ps
  unfolding keep SameSeen
  keep_same_seen here nil = refl
  keep_same_seen here (cons h a) = rw (h, keep_same_seen here a)

pub only_the_moment_changes : OnlyTheMomentChanges
unfolding OnlyTheMomentChanges asked_at
only_the_moment_changes q = refl

lifetime_same : (earlier later : ℕ) (r : Record) → T (not (ends r)) → lifetime_of earlier r ≡ lifetime_of later r
unfolding lifetime_of ends
lifetime_same earlier later (location p lo) t = refl
lifetime_same earlier later (resource o t lo (suc ttl) time rd) n = refl
lifetime_same earlier later (resource o t lo zero zero rd) n = refl
lifetime_same earlier later (resource o t lo zero (suc time) rd) n = absurd (rw (eqb-suc-zero time) at n)

pub between_times_nothing_changes : BetweenTimesNothingChanges
unfolding BetweenTimesNothingChanges result_from answers asked_at
between_times_nothing_changes q earlier later serial source ordered t = record {
  result =
      let here : List ℕ = location_of q.client (map (λ p. p.rec) (placed_from 0 (source_records serial source))) in
      rw
      (keep_same_seen earlier later ordered here
      (placed_same_seen earlier later ordered here 0 (source_same_seen earlier later ordered serial here source t)));
  lifetimes = lifetime_same earlier later;
}

-- ---- asking at two moments

abbrev SameReply : Option Placed → Reply → Reply → Type 0
SameReply o r s = (without_lifetime r ≡ without_lifetime s) × (T (lasts o) → r ≡ s)

same_reply : (m n : ℕ) (o : Option Placed) → SameReply o (reply_of m o) (reply_of n o)
unfolding reply_of without_lifetime lasts
same_reply m n None = (refl, λ t. refl)
same_reply m n (Some p) =
    let place : ℕ = p.end - length (rdata_of p.rec) in
    let found : ℕ → Reply = λ l. Reply.Found (type_of p.rec) (record { 0 = l }) place (length (rdata_of p.rec)) in
    (refl, λ t. ap found (lifetime_same m n p.rec t))

-- a question refused, or answered
module _ (o : Option Placed) where
  same_refused : (b : Bool) (f : AskFault) (r s : Response) → SameButLifetime o r s
      → SameButLifetime o (pick b (refusal f) r) (pick b (refusal f) s)
  unfolding pick refusal
  same_refused true f r s h = record { outcome = refl; reply = refl; lifetime = λ t. refl }
  same_refused false f r s h = h

  same_response : (outcome : Result) (r s : Reply) → SameReply o r s
      → SameButLifetime o (record { outcome = outcome.outcome; reply = r }) (record { outcome = outcome.outcome; reply = s })
  same_response result r s h =
      record { outcome = refl; reply = h.0; lifetime = λ t. ap (λ (x : Reply). record { outcome = result.outcome; reply = x }) (h.1 t) }

-- in time, asking refuses for two reasons that don't depend on the moment
asked_in_time : (q : Question) (m n : ℕ) {rs : List Record} → All Ok rs → m < moment_end
    → ask_response (bytes_of rs) (asked_at m q) n
    ≡ pick (not (is_wire q.name)) (refusal AskFault.Name)
    (pick (not (is_client q.client)) (refusal AskFault.Client) (response_of m (result_from rs (asked_at m q)) n))
unfolding asked_at response_from result_from
asked_in_time q m n ok h =
    asked_records (asked_at m q) n ok
    ∙ ap (pick (not (is_wire q.name)) (refusal AskFault.Name)) (pick_no _ _ _ (lt→nleb moment_end m h))

pub between_times_asked_alike : BetweenTimesAskedAlike
unfolding BetweenTimesAskedAlike BetweenTimesNothingChanges handed_out response_of
between_times_asked_alike q earlier later n serial source out ok room ordered limit t =
    let good : All Ok (source_records serial source) = source_ok serial source ok in
    let result : Result = result_from (source_records serial source) (asked_at later q) in
    let same : result_from (source_records serial source) (asked_at earlier q) ≡ result =
    (between_times_nothing_changes q earlier later serial source ordered t).result in
    let handed : Option Placed = slice_get result.list n in
    rw
    (written source serial out ok room, asked_in_time q earlier n good (omega arith), asked_in_time q later n good limit, same)
    (same_refused handed _ _ _ _ (same_refused handed _ _ _ _ (same_response handed result _ _ (same_reply earlier later handed))))
