-- Lines of other towns are not seen in an answer.
use mathlib.Core.Path.{◌≡◌, refl, sym, ap, ◌∙◌}
use Prim.Native.Nat.{ℕ}
use mathlib.Core.Bool.{Bool, true, false, not, ◌&&◌, ◌||◌}
use mathlib.Core.List.{List, [], ◌∷◌, ◌++◌, map}
use Rattle.std.specs.Prelude.{Option, Some}
use lib.ListN.{length}
use lib.Dec.{T, eqb}
use Rattle.rules.specs.declared.quantities.Shared.{Shared}
use Rattle.rules.specs.Lists.{keep, join_all, same_bytes}
use Rattle.rules.specs.Kinds.{lines_of, strip}
use Rattle.rules.specs.Records.{Record, location, resource, lo_bytes}
use Rattle.rules.specs.Answers.{stripped_records, line_records, source_records}
use Rattle.rules.specs.Questions.{Best, better, best_of, location_of, in_time, visible}
use Rattle.rules.specs.Towns.{stripped_lines, is_location_line, shared_in, has_lo_of, location_lines, lines_for, location_in, TheseLinesAreAll, TheLocationIsEnough, OtherTownsAreUnseen, OtherTownsAreUnasked}
use Rattle.rules.proofs.Tests.{pick_ok, pick_no}
use Rattle.rules.proofs.Lists.{All, nil, cons, all_weaken, keep_append}
use Rattle.rules.proofs.Meaning.{source_ok, written}
use Rattle.rules.proofs.Carried.{Carries, carries, Located, Says, nothing, place, shares, stripped_says}
use Rattle.rules.proofs.Alike.{same_by_seen, asked_alike}

-- ---- the client's location: the `%` lines alone

best_append : (c : List ℕ) (b : Best) (xs ys : List Record) → best_of c b (xs ++ ys) ≡ best_of c (best_of c b xs) ys
unfolding best_of
best_append c b [] ys = refl
best_append c b (x ∷ xs) ys = best_append c (better c b x) xs ys

best_carried : (c : List ℕ) (b : Best) {s : Shared} {rs : List Record} → All (Carries s) rs → best_of c b rs ≡ b
unfolding best_of better
best_carried c b nil = refl
best_carried c b (cons (carries e f) a) = best_carried c b a

best_says : (c : List ℕ) (best : Best) {rs : List Record} {b : Bool} {o : Option Shared} → Says rs b o → T (not b)
    → best_of c best rs ≡ best
unfolding best_of
best_says c best (nothing e) t = rw e
best_says c best (place a) t = absurd t
best_says c best (shares s n a) t = best_carried c best a

-- a source's records, by its stripped lines
abbrev pub records_in : ℕ → List (List ℕ) → List Record
records_in serial ls = join_all (map (stripped_records serial) ls)

by_stripped : (serial : ℕ) (ls : List (List ℕ))
    → join_all (map (line_records serial) ls) ≡ records_in serial (map strip ls)
unfolding join_all line_records
by_stripped serial [] = refl
by_stripped serial (l ∷ ls) = ap (λ (rs : List Record). stripped_records serial (strip l) ++ rs) (by_stripped serial ls)

pub records_by_lines : (serial : ℕ) (source : List ℕ)
    → source_records serial source ≡ records_in serial (stripped_lines source)
unfolding source_records stripped_lines
records_by_lines serial source = by_stripped serial (lines_of source)

module _ (serial : ℕ) (client : List ℕ) where
  best_lines : (best : Best) (ls : List (List ℕ))
      → best_of client best (records_in serial ls) ≡ best_of client best (records_in serial (keep is_location_line ls))
  unfolding join_all keep
  best_lines best [] = refl
  best_lines best (l ∷ ls) =
      let one : List Record = stripped_records serial l in
      let rest : List Record = records_in serial ls in
      pick_ok (λ (ks : List (List ℕ)). best_of client best (one ++ rest) ≡ best_of client best (records_in serial ks)) _
      (λ t. best_append client best one rest ∙ best_lines (best_of client best one) ls ∙ sym (best_append client best one _))
      (λ t.
      best_append client best one rest
      ∙ ap (λ (x : Best). best_of client x rest) (best_says client best (stripped_says serial l) t)
      ∙ best_lines best ls)

  location_by_lines : (source : List ℕ)
      → location_of client (source_records serial source) ≡ location_of client (records_in serial (location_lines source))
  unfolding location_of location_lines
  location_by_lines source =
      rw (records_by_lines serial source) (ap (λ (x : Best). x.lo) (best_lines _ (stripped_lines source)))

-- ---- the visible records: the lines without lo and with the client's

keep_none : (t : Record → Bool) {rs : List Record} → All (λ r. T (not (t r))) rs → keep t rs ≡ []
unfolding keep
keep_none t nil = refl
keep_none t (cons {x = r} h a) = pick_no _ _ _ h ∙ keep_none t a

no_and : (a b : Bool) → T (not a) → T (not (a && b))
no_and true b t = absurd t
no_and false b t = tt

location_hidden : (here : List ℕ) (moment : ℕ) (r : Record) → Located r → T (not (visible here moment r))
unfolding visible
location_hidden here moment (location p lo) h = tt
location_hidden here moment (resource _ _ _ _ _ _) h = elim h [ ]

other_lo_hidden : (here : List ℕ) (moment : ℕ) (s : Shared) (r : Record) → T (not (has_lo_of here (Some s))) → Carries s r
    → T (not (visible here moment r))
unfolding visible has_lo_of
other_lo_hidden here moment s (resource owner type lo ttl time rdata) t (carries e f) =
    rw e (no_and (eqb (length (lo_bytes s.lo)) 0 || same_bytes (lo_bytes s.lo) here) (in_time moment ttl time) t)
other_lo_hidden here moment s (location _ _) t c = elim c [ ]

says_hidden : (here : List ℕ) (moment : ℕ) {rs : List Record} {b : Bool} {o : Option Shared} → Says rs b o
    → T (not (has_lo_of here o)) → keep (visible here moment) rs ≡ []
unfolding keep
says_hidden here moment (nothing e) t = rw e
says_hidden here moment (place a) t = keep_none (visible here moment) (all_weaken (location_hidden here moment) a)
says_hidden here moment (shares s n a) t =
    keep_none (visible here moment) (all_weaken (λ r c. other_lo_hidden here moment s r t c) a)

module _ (serial : ℕ) (here : List ℕ) (moment : ℕ) where
  abbrev seen : List Record → List Record
  seen rs = keep (visible here moment) rs

  seen_lines : (ls : List (List ℕ))
      → seen (records_in serial ls) ≡ seen (records_in serial (keep (λ l. has_lo_of here (shared_in l)) ls))
  unfolding join_all keep
  seen_lines [] = refl
  seen_lines (l ∷ ls) =
      let one : List Record = stripped_records serial l in
      let rest : List Record = records_in serial ls in
      pick_ok (λ (ks : List (List ℕ)). seen (one ++ rest) ≡ seen (records_in serial ks)) _
      (λ t. keep_append _ one rest ∙ ap (λ (x : List Record). seen one ++ x) (seen_lines ls) ∙ sym (keep_append _ one _))
      (λ t.
      keep_append _ one rest
      ∙ ap (λ (x : List Record). x ++ seen rest) (says_hidden here moment (stripped_says serial l) t)
      ∙ seen_lines ls)

  seen_by_lines : (source : List ℕ) → seen (source_records serial source) ≡ seen (records_in serial (lines_for here source))
  unfolding lines_for
  seen_by_lines source = rw (records_by_lines serial source) (seen_lines (stripped_lines source))

-- ---- two sources

pub the_location_is_enough : TheLocationIsEnough
unfolding TheLocationIsEnough
the_location_is_enough q serial a b same others =
    let here : List ℕ = location_in a serial q.client in
    same_by_seen q (source_records serial a) (source_records serial b)
    (seen_by_lines serial here q.moment a
    ∙ ap (λ (ls : List (List ℕ)). keep (visible here q.moment) (records_in serial ls)) others
    ∙ sym (seen_by_lines serial here q.moment b)
    ∙ ap (λ (h : List ℕ). keep (visible h q.moment) (source_records serial b)) same)

same_location : (client : List ℕ) (serial : ℕ) (a b : List ℕ) → location_lines a ≡ location_lines b
    → location_in a serial client ≡ location_in b serial client
same_location client serial a b same =
    location_by_lines serial client a
    ∙ ap (λ (ls : List (List ℕ)). location_of client (records_in serial ls)) same
    ∙ sym (location_by_lines serial client b)

pub these_lines_are_all : TheseLinesAreAll
unfolding TheseLinesAreAll
these_lines_are_all client serial a b e f = record { locations = e; others = f }

pub other_towns_are_unseen : OtherTownsAreUnseen
unfolding OtherTownsAreUnseen TheLocationIsEnough
other_towns_are_unseen q serial a b same =
    the_location_is_enough q serial a b (same_location q.client serial a b same.locations) same.others

pub other_towns_are_unasked : OtherTownsAreUnasked
unfolding OtherTownsAreUnasked OtherTownsAreUnseen
other_towns_are_unasked q n serial a b outA outB okA okB same roomA roomB =
    rw (written a serial outA okA roomA, written b serial outB okB roomB)
    (asked_alike q n (source_ok serial a okA) (source_ok serial b okB) (other_towns_are_unseen q serial a b same))
