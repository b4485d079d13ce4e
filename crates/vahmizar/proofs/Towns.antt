-- Other towns, other names and other moments, over the calls.
use mathlib.Core.Path.{◌≡◌, refl, sym, ap, ap₂, ◌∙◌}
use mathlib.Core.List.{List, [], ◌∷◌, ◌++◌}
use Prim.Native.Nat.{ℕ, ◌+◌, ◌≤◌}
use native.Mathlib.Omega.{arith}
use lib.ListN.{take, drop}
use Rattle.rules.specs.declared.replies.Outcome.{Outcome}
use Rattle.rules.specs.declared.replies.Reply.{Reply}
use Rattle.rules.specs.declared.replies.Response.{Response}
use Rattle.rules.specs.Lists.{join_all, le, from_le}
use Rattle.rules.specs.Records.{Record}
use Rattle.rules.specs.Answers.{source_records}
use Rattle.rules.specs.Questions.{Question}
use Rattle.rules.specs.Reading.{reply_number, reply_values, outcome_number, response_numbers, ask_response}
use Rattle.rules.specs.Demands.{Accepted, bytes_needed}
use Rattle.rules.specs.Towns.{without_place, handed, AnswerAlike, OtherTownsAreUnasked}
use Rattle.rules.specs.Moments.{asked_at, without_lifetime, handed_out, SameButLifetime, BetweenTimesAskedAlike}
use Rattle.rules.specs.Index.{TheseAloneAreAsked, AnIndexIsEnough}
use Rattle.rules.proofs.Numbers.{from_le_lem}
use Rattle.rules.proofs.Lists.{all_keep}
use Rattle.rules.proofs.Meaning.{source_ok}
use Rattle.rules.proofs.Within.{Within, asked_within, most_needed, needed_few, kept_few}
use Rattle.rules.proofs.Towns.{other_towns_are_unasked}
use Rattle.rules.proofs.Moments.{between_times_asked_alike}
use Rattle.rules.proofs.Index.{these_alone_are_asked, an_index_is_enough}
use Rattle.vahmizar.specs.Promises.{laid}
use Rattle.vahmizar.specs.Joining.{Call, wrote, Roomy}
use Rattle.vahmizar.specs.Towns.{Asking, number_at, EveryCallCounts, Agree, TheCallsHideOtherTowns, TheCallsNeedNoOtherNames, TheCallsTakeAnIndex, TheCallsChangeNothingBetweenTimes}
use Rattle.vahmizar.proofs.Kept.{past}
use Rattle.vahmizar.proofs.Joined.{writes, wrote_records}

pub every_call_counts : EveryCallCounts
every_call_counts = record {
  compiling = λ source serial out answer out' answer' r c h.
      record { source = source; out = out; answer = answer; out' = out'; answer' = answer'; r = r; compiles = c; fits = h };
  asking = λ records q ordinal answer answer' r a h. record { answer = answer; answer' = answer'; r = r; asks = a; fits = h };
}

-- ---- an answer's bytes, by what was said

module _ {x : List ℕ} {q : Question} {ordinal : ℕ} (u : Asking x q ordinal) where
  returns : u.r ≡ reply_number (ask_response x q ordinal).reply
  returns = past 48 u.answer _ _ _ u.fits u.asks.number

  answers : u.answer' ≡ laid (response_numbers (ask_response x q ordinal))
  answers = past 48 u.answer _ _ _ u.fits u.asks.numbers

-- ---- what a caller sees of a reply and an outcome but for one number: what is returned, and the bytes in front of
-- that number and behind it

abbrev laid_of : ℕ → Reply → List ℕ
laid_of o a = laid (reply_number a ∷ reply_values a ++ (o ∷ []))

abbrev Seen : Type 0
Seen = ℕ × List ℕ × List ℕ

abbrev seen : ℕ → ℕ → ℕ → Reply → Seen
seen i j o a = (reply_number a, take i (laid_of o a), drop j (laid_of o a))

abbrev seen_of : {x : List ℕ} {q : Question} {ordinal : ℕ} → ℕ → ℕ → Asking x q ordinal → Seen
seen_of i j u = (u.r, take i u.answer', drop j u.answer')

place_left_out : (o : ℕ) (a : Reply) → seen 24 32 o a ≡ seen 24 32 o (without_place a)
unfolding without_place laid join_all le
place_left_out o (Reply.Found type lifetime place count) = refl
place_left_out o Reply.NoMore = refl
place_left_out o (Reply.Refused fault) = refl

lifetime_left_out : (o : ℕ) (a : Reply) → seen 16 24 o a ≡ seen 16 24 o (without_lifetime a)
unfolding without_lifetime laid join_all le
lifetime_left_out o (Reply.Found type lifetime place count) = refl
lifetime_left_out o Reply.NoMore = refl
lifetime_left_out o (Reply.Refused fault) = refl

module _ (i j : ℕ) (without : Reply → Reply)
    (left_out : (o : ℕ) (a : Reply) → seen i j o a ≡ seen i j o (without a)) where
  seen_same : (r s : Response) → r.outcome ≡ s.outcome → without r.reply ≡ without s.reply
      → seen i j (outcome_number r.outcome) r.reply ≡ seen i j (outcome_number s.outcome) s.reply
  seen_same r s e f =
      left_out (outcome_number r.outcome) r.reply
      ∙ ap₂ (λ (o : Outcome) (a : Reply). seen i j (outcome_number o) a) e f
      ∙ sym (left_out (outcome_number s.outcome) s.reply)

  -- the same of the bytes of two calls
  module _ {x y : List ℕ} {p q : Question} {ordinal : ℕ} (u : Asking x p ordinal) (v : Asking y q ordinal) where
    calls_same : ((ask_response x p ordinal).outcome ≡ (ask_response y q ordinal).outcome)
        → without (ask_response x p ordinal).reply ≡ without (ask_response y q ordinal).reply
        → seen_of i j u ≡ seen_of i j v
    unfolding response_numbers
    calls_same e f =
        rw (returns u, returns v, answers u, answers v)
        (seen_same (ask_response x p ordinal) (ask_response y q ordinal) e f)

-- ---- the caller finds the data at the numbers that it reads

module _ (x : List ℕ) (a b c d e f : ℕ) where
  abbrev six : List ℕ
  six = laid (a ∷ b ∷ c ∷ d ∷ e ∷ f ∷ [])

  fourth : take 8 (drop 24 six) ≡ le 8 d
  unfolding laid join_all le
  fourth = refl

  fifth : take 8 (drop 32 six) ≡ le 8 e
  unfolding laid join_all le
  fifth = refl

  at_numbers : d + e ≤ most_needed → take (number_at 4 six) (drop (number_at 3 six) x) ≡ take e (drop d x)
  at_numbers h =
      let place : number_at 3 six ≡ d = ap from_le fourth ∙ from_le_lem 8 (omega arith) in
      let count : number_at 4 six ≡ e = ap from_le fifth ∙ from_le_lem 8 (omega arith) in
      ap₂ (λ (m n : ℕ). take m (drop n x)) count place

data_are : (x : List ℕ) (o : ℕ) (a : Reply) → Within most_needed a
    → take (number_at 4 (laid_of o a)) (drop (number_at 3 (laid_of o a)) x) ≡ handed x a
unfolding handed
data_are x o (Reply.Found type lifetime place count) h = at_numbers x _ _ _ place count _ h
data_are x o Reply.NoMore h = at_numbers x _ _ _ 0 0 _ (omega arith)
data_are x o (Reply.Refused fault) h = at_numbers x _ _ _ 0 0 _ (omega arith)

-- ---- two calls

module _ {x y : List ℕ} {q : Question} {ordinal : ℕ} (u : Asking x q ordinal) (v : Asking y q ordinal) where
  abbrev Small : List ℕ → Type 0
  Small stream = Within most_needed (ask_response stream q ordinal).reply

  agree : AnswerAlike x y q ordinal → Small x → Small y → Agree u v
  unfolding AnswerAlike response_numbers
  agree same small small' =
      let r : Response = ask_response x q ordinal in
      let s : Response = ask_response y q ordinal in
      let both = calls_same 24 32 without_place place_left_out u v same.outcome same.numbers in
      record {
        returned = ap (λ (n : Seen). n.0) both;
        front = ap (λ (n : Seen). n.1) both;
        back = ap (λ (n : Seen). n.2) both;
        rdata =
            rw
            (answers u, answers v, data_are x (outcome_number r.outcome) r.reply small, data_are y (outcome_number s.outcome) s.reply small')
            same.rdata;
      }

-- what a call hands out of the bytes that another wrote lies within them
small_by : {serial : ℕ} (x : Call serial) (q : Question) (ordinal : ℕ) → Accepted x.source → Roomy x
    → Within most_needed (ask_response (wrote x) q ordinal).reply
unfolding bytes_needed
small_by {serial} x q ordinal ok room =
    rw (wrote_records x ok room)
    (asked_within q ordinal most_needed (source_ok serial x.source ok) (needed_few serial x.source ok))

pub the_calls_hide_other_towns : TheCallsHideOtherTowns
unfolding TheCallsHideOtherTowns OtherTownsAreUnasked
the_calls_hide_other_towns serial x y q ordinal u v okX okY same roomX roomY =
    agree u v
    (rw (writes x, writes y) (other_towns_are_unasked q ordinal serial x.source y.source x.out y.out okX okY same roomX roomY))
    (small_by x q ordinal okX roomX)
    (small_by y q ordinal okY roomY)

pub the_calls_need_no_other_names : TheCallsNeedNoOtherNames
unfolding TheCallsNeedNoOtherNames TheseAloneAreAsked
the_calls_need_no_other_names serialX serialY x y q ordinal u v okX okY roomX roomY e =
    agree u v
    (rw (writes x, writes y)
    (these_alone_are_asked q ordinal serialX serialY x.source y.source x.out y.out okX okY roomX roomY e))
    (small_by x q ordinal okX roomX)
    (small_by y q ordinal okY roomY)

pub the_calls_take_an_index : TheCallsTakeAnIndex
unfolding TheCallsTakeAnIndex AnIndexIsEnough bytes_needed
the_calls_take_an_index serial x q ordinal chosen u v ok room has =
    let rs : List Record = source_records serial x.source in
    agree u v
    (rw (writes x) (an_index_is_enough q ordinal serial x.source x.out chosen ok room has))
    (small_by x q ordinal ok room)
    (asked_within q ordinal most_needed (all_keep chosen (source_ok serial x.source ok)) (omega (arith, kept_few chosen rs, needed_few serial x.source ok)))

pub the_calls_change_nothing_between_times : TheCallsChangeNothingBetweenTimes
unfolding TheCallsChangeNothingBetweenTimes BetweenTimesAskedAlike response_numbers
the_calls_change_nothing_between_times serial x q earlier later ordinal u v ok room ordered limit t =
    let r : Response = ask_response (wrote x) (asked_at earlier q) ordinal in
    let s : Response = ask_response (wrote x) (asked_at later q) ordinal in
    let same : SameButLifetime (handed_out x.source serial (asked_at later q) ordinal) r s =
    rw (writes x)
    (between_times_asked_alike q earlier later ordinal serial x.source x.out ok room ordered limit t) in
    let both = calls_same 16 24 without_lifetime lifetime_left_out u v same.outcome same.reply in
    record {
      returned = ap (λ (n : Seen). n.0) both;
      front = ap (λ (n : Seen). n.1) both;
      back = ap (λ (n : Seen). n.2) both;
      lifetime = λ l. answers u ∙ ap (λ (a : Response). laid (response_numbers a)) (same.lifetime l) ∙ sym (answers v);
    }
