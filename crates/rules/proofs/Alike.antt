-- Records that give the same result wherever they stand, and streams that then answer alike.
use mathlib.Core.Path.{◌≡◌, refl, sym, ap, ◌∙◌}
use Prim.Native.Nat.{ℕ, zero, suc, ◌+◌}
use mathlib.Core.Bool.{Bool, true, false}
use mathlib.Core.List.{List, [], ◌∷◌, map, nil≢cons, cons≢nil, head-eq_of_cons-eq, tail-eq_of_cons-eq}
use Rattle.std.specs.Prelude.{Some, slice_get}
use lib.ListN.{length}
use Rattle.rules.specs.declared.replies.AskFault.{AskFault}
use Rattle.rules.specs.declared.replies.Response.{Response}
use Rattle.rules.specs.declared.replies.Reply.{Reply}
use Rattle.rules.specs.Lists.{pick, keep, lower}
use Rattle.rules.specs.Records.{Record}
use Rattle.rules.specs.Bytes.{rdata_of, bytes_of, size}
use Rattle.rules.specs.Questions.{Question, Placed, placed_from, location_of, visible, lifetime_of, ancestors, control_of, Result, by_control, answers}
use Rattle.rules.specs.Reading.{type_of, reply_of, response_of, response_from, refusal}
use Rattle.rules.specs.Towns.{result_from, SameResult, without_place, handed, SameResponse, AnswerAlike}
use Rattle.rules.proofs.Lists.{All, nil, cons, keep_map}
use Rattle.rules.proofs.Records.{Ok}
use Rattle.rules.proofs.Meaning.{answers_all, Held, held, asked_records}
use Rattle.rules.proofs.Unseen.{Unseen, changed, answers_same}

-- ---- places are not seen

unfoldable pub bare : Record → Placed
bare r = record { rec = r; end = 0 }

unplaced : Placed → Placed
unplaced p = bare p.rec

place_unseen : Unseen unplaced
unfolding unplaced bare
place_unseen = record {
  ordinary = λ n p. refl;
  wildcard = λ n p. refl;
  seen = λ here m p. refl;
  typed = λ n p. refl;
  located = λ c b p. refl;
}

bare_placed : (n : ℕ) (rs : List Record) → map unplaced (placed_from n rs) ≡ map bare rs
unfolding unplaced placed_from
bare_placed n [] = refl
bare_placed n (r ∷ rs) = ap {B = List Placed} (λ l. bare r ∷ l) (bare_placed (n + size r) rs)

recs_bare : (rs : List Record) → map (λ p. p.rec) (map bare rs) ≡ rs
unfolding bare
recs_bare [] = refl
recs_bare (r ∷ rs) = ap {B = List Record} (λ l. r ∷ l) (recs_bare rs)

recs_unplaced : (ps : List Placed) → map (λ p. p.rec) (map unplaced ps) ≡ map (λ p. p.rec) ps
unfolding unplaced bare
recs_unplaced [] = refl
recs_unplaced (p ∷ ps) = ap {B = List Record} (λ l. p.rec ∷ l) (recs_unplaced ps)

-- the result without places
bare_result : (q : Question) (rs : List Record) → changed unplaced (result_from rs q) ≡ answers q (map bare rs)
unfolding result_from
bare_result q rs = sym (answers_same unplaced place_unseen q (placed_from 0 rs)) ∙ ap (answers q) (bare_placed 0 rs)

pub same_bare : (q : Question) (rs ss : List Record) → answers q (map bare rs) ≡ answers q (map bare ss)
    → SameResult (result_from rs q) (result_from ss q)
unfolding changed
same_bare q rs ss e =
    let same : changed unplaced (result_from rs q) ≡ changed unplaced (result_from ss q) =
    bare_result q rs ∙ e ∙ sym (bare_result q ss) in
    record {
      outcome = ap (λ (r : Result). r.outcome) same;
      list =
          sym (recs_unplaced (result_from rs q).list)
          ∙ ap (λ (r : Result). map (λ p. p.rec) r.list) same
          ∙ recs_unplaced (result_from ss q).list;
    }

-- the records that a question's client sees at its moment
abbrev pub seen_by : Question → List Record → List Record
seen_by q rs = keep (visible (location_of q.client rs) q.moment) rs

-- what is answered is told by these alone
by_seen : (q : Question) (rs : List Record)
    → answers q (map bare rs)
    ≡ by_control q.type (map lower q.name) (map bare (seen_by q rs))
    (control_of (map bare (seen_by q rs)) (map lower q.name ∷ ancestors (map lower q.name)))
unfolding answers bare
by_seen q rs =
    let here : List ℕ = location_of q.client rs in
    rw (recs_bare rs, keep_map bare (λ p. visible here q.moment p.rec) (visible here q.moment) (λ r. refl) rs)

pub same_by_seen : (q : Question) (rs ss : List Record) → seen_by q rs ≡ seen_by q ss
    → SameResult (result_from rs q) (result_from ss q)
same_by_seen q rs ss e = same_bare q rs ss (rw (by_seen q rs, by_seen q ss, e))

-- ---- asking

module _ (x y : List ℕ) where
  same_pick : (b : Bool) (f : AskFault) (r s : Response) → SameResponse x y r s
      → SameResponse x y (pick b (refusal f) r) (pick b (refusal f) s)
  unfolding pick refusal handed
  same_pick true f r s h = record { outcome = refl; numbers = refl; rdata = refl }
  same_pick false f r s h = h

  abbrev SameReply : Reply → Reply → Type 0
  SameReply r s = (without_place r ≡ without_place s) × (handed x r ≡ handed y s)

  same_found : (moment : ℕ) (p p' : Placed) → p.rec ≡ p'.rec → Held x p → Held y p'
      → SameReply (reply_of moment (Some p)) (reply_of moment (Some p'))
  unfolding reply_of without_place handed Held
  same_found moment p p' e h k = (
    ap (λ (r : Record). Reply.Found (type_of r) (record { 0 = lifetime_of moment r }) 0 (length (rdata_of r))) e,
    h.0 ∙ ap rdata_of e ∙ sym k.0,
  )

  same_at : (moment : ℕ) {ps qs : List Placed} → All (Held x) ps → All (Held y) qs
      → map (λ p. p.rec) ps ≡ map (λ p. p.rec) qs → (n : ℕ)
      → SameReply (reply_of moment (slice_get ps n)) (reply_of moment (slice_get qs n))
  same_at moment nil nil e n = unfold reply_of handed in (refl, refl)
  same_at moment nil (cons k b) e n = absurd (nil≢cons e)
  same_at moment (cons h a) nil e n = absurd (cons≢nil e)
  same_at moment (cons {x = p} h a) (cons {x = p'} k b) e zero = same_found moment p p' (head-eq_of_cons-eq e) h k
  same_at moment (cons h a) (cons k b) e (suc n) = same_at moment a b (tail-eq_of_cons-eq e) n

pub asked_alike : (q : Question) (n : ℕ) {rs ss : List Record} → All Ok rs → All Ok ss
    → SameResult (result_from rs q) (result_from ss q)
    → AnswerAlike (bytes_of rs) (bytes_of ss) q n
unfolding AnswerAlike result_from response_from response_of
asked_alike q n {rs} {ss} ok ok' same =
    let x : List ℕ = bytes_of rs in
    let y : List ℕ = bytes_of ss in
    let reply =
    same_at x y q.moment (answers_all q (held [] 0 rs refl)) (answers_all q (held [] 0 ss refl)) same.list n in
    rw (asked_records q n ok, asked_records q n ok')
    (same_pick x y _ _ _ _ (same_pick x y _ _ _ _ (same_pick x y _ _ _ _
    (record { outcome = same.outcome; numbers = reply.0; rdata = reply.1 }))))
