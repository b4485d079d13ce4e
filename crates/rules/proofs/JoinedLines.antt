-- The lines of sources joined: theirs in turn, and as many as they have byte 10s.
use mathlib.Core.Path.{◌≡◌, refl, sym, ap, ◌∙◌}
use Prim.Native.Nat.{ℕ, suc, ◌+◌}
use native.Mathlib.Omega.{arith}
use mathlib.Core.Bool.{Bool, true, false, not}
use mathlib.Core.List.{List, [], ◌∷◌, ◌++◌, map, append-nil}
use lib.ListN.{length, length-append}
use lib.Dec.{T, eqb}
use mir.Facts.{yes_and}
use Rattle.rules.specs.Lists.{pick, keep, join_all, onto_first}
use Rattle.rules.specs.Kinds.{lines_of}
use Rattle.rules.specs.Joining.{ended, newlines, ended_but_last, closed, joined_files, EndedFilesStay, ClosingKeepsTheLines}
use Rattle.rules.proofs.Tests.{and_l, and_r, pick_ok, pick_yes, pick_no, pick_ap}
use Rattle.rules.proofs.Lists.{keep_append}

-- ---- two sources

-- a source that isn't empty has a line
abbrev Full : List (List ℕ) → Type 0
Full [] = ⊥
Full (l ∷ ls) = Unit {0}

onto_full : (b : ℕ) (ls : List (List ℕ)) → Full (onto_first b ls)
unfolding onto_first
onto_full b [] = tt
onto_full b (l ∷ ls) = tt

lines_full : (b : ℕ) (s : List ℕ) → Full (lines_of (b ∷ s))
unfolding lines_of
lines_full b s = pick_ok Full _ (λ t. tt) (λ t. onto_full b (lines_of s))

onto_append : (b : ℕ) (ls ms : List (List ℕ)) → Full ls → onto_first b (ls ++ ms) ≡ onto_first b ls ++ ms
unfolding onto_first
onto_append b [] ms f = absurd f
onto_append b (l ∷ ls) ms f = refl

pub lines_append : (a b : List ℕ) → T (ended a) → lines_of (a ++ b) ≡ lines_of a ++ lines_of b
unfolding lines_of ended
lines_append [] b t = refl
lines_append (x ∷ []) b t = rw (pick_yes _ _ (onto_first x (lines_of b)) t, pick_yes _ _ (onto_first x []) t)
lines_append (x ∷ y ∷ s) b t =
    rw (lines_append (y ∷ s) b t, onto_append x (lines_of (y ∷ s)) (lines_of b) (lines_full y s)) (sym (pick_ap (λ ls. ls ++ lines_of b) (eqb x 10) _ _))

-- ---- as many as byte 10s

onto_length : (b : ℕ) (ls : List (List ℕ)) → Full ls → length (onto_first b ls) ≡ length ls
unfolding onto_first
onto_length b [] f = absurd f
onto_length b (l ∷ ls) f = refl

one_more : (b : Bool) (x : ℕ) (ls ms : List (List ℕ)) (ks : List ℕ) → length ms ≡ length ls → length ls ≡ length ks
    → length (pick b ([] ∷ ls) ms) ≡ length (pick b (x ∷ ks) ks)
unfolding pick
one_more true x ls ms ks e f = ap suc f
one_more false x ls ms ks e f = e ∙ f

pub lines_count : (a : List ℕ) → T (ended a) → length (lines_of a) ≡ newlines a
unfolding lines_of ended newlines keep
lines_count [] t = refl
lines_count (x ∷ []) t = rw (pick_yes _ _ (onto_first x []) t, pick_yes _ (x ∷ []) [] t)
lines_count (x ∷ y ∷ s) t = one_more (eqb x 10) x _ _ _ (onto_length x (lines_of (y ∷ s)) (lines_full y s)) (lines_count (y ∷ s) t)

-- ---- a byte 10 behind a source

snoc_ended : (s : List ℕ) → T (ended (s ++ (10 ∷ [])))
unfolding ended
snoc_ended [] = tt
snoc_ended (b ∷ []) = tt
snoc_ended (b ∷ c ∷ s) = snoc_ended (c ∷ s)

onto_line : (b : ℕ) → onto_first b (lines_of (10 ∷ [])) ≡ onto_first b (lines_of [])
unfolding lines_of pick onto_first
onto_line b = refl

snoc_lines : (s : List ℕ) → T (not (ended s)) → lines_of (s ++ (10 ∷ [])) ≡ lines_of s
unfolding lines_of ended
snoc_lines [] t = absurd t
snoc_lines (b ∷ []) t = pick_no _ _ _ t ∙ onto_line b ∙ sym (pick_no _ _ _ t)
snoc_lines (b ∷ c ∷ s) t = rw (snoc_lines (c ∷ s) t)

pub closing_keeps_the_lines : ClosingKeepsTheLines
unfolding ClosingKeepsTheLines closed
closing_keeps_the_lines file = (
  pick_ok (λ (s : List ℕ). T (ended s)) (ended file) (λ t. t) (λ n. snoc_ended file),
  pick_ok (λ (s : List ℕ). lines_of s ≡ lines_of file) (ended file) (λ t. refl) (λ n. snoc_lines file n),
)

closed_lines : (file : List ℕ) → lines_of (closed file) ≡ lines_of file
unfolding ClosingKeepsTheLines
closed_lines file = (closing_keeps_the_lines file).1

closed_ended : (file : List ℕ) → T (ended (closed file))
unfolding ClosingKeepsTheLines
closed_ended file = (closing_keeps_the_lines file).0

ended_closed : (s : List ℕ) → T (ended s) → closed s ≡ s
unfolding closed
ended_closed s t = pick_yes _ _ _ t

-- ---- any number

pub files_lines : (files : List (List ℕ)) → lines_of (joined_files files) ≡ join_all (map lines_of files)
unfolding joined_files join_all
files_lines [] = unfold lines_of in refl
files_lines (f ∷ []) = sym (append-nil (lines_of f))
files_lines (f ∷ g ∷ fs) = rw (lines_append (closed f) (joined_files (g ∷ fs)) (closed_ended f), closed_lines f, files_lines (g ∷ fs))

ended_files : (sources : List (List ℕ)) → T (ended_but_last sources) → joined_files sources ≡ join_all sources
unfolding joined_files join_all ended_but_last
ended_files [] e = refl
ended_files (s ∷ []) e = sym (append-nil s)
ended_files (s ∷ t ∷ ss) e =
    rw (ended_closed s (and_l (ended s) (ended_but_last (t ∷ ss)) e), ended_files (t ∷ ss) (and_r (ended s) (ended_but_last (t ∷ ss)) e))

pub ended_files_stay : EndedFilesStay
unfolding EndedFilesStay
ended_files_stay files e = ended_files files e

pub ended_lines : (sources : List (List ℕ)) → T (ended_but_last sources) → lines_of (join_all sources) ≡ join_all (map lines_of sources)
ended_lines sources e = ap lines_of (sym (ended_files sources e)) ∙ files_lines sources

pub ended_two : (a b : List ℕ) → T (ended a) → T (ended_but_last (a ∷ b ∷ []))
unfolding ended_but_last
ended_two a b t = yes_and (ended a) true t tt

newlines_append : (a b : List ℕ) → newlines (a ++ b) ≡ newlines a + newlines b
unfolding newlines
newlines_append a b = rw (keep_append (λ b. eqb b 10) a b) (length-append (keep (λ b. eqb b 10) a) (keep (λ b. eqb b 10) b))

pub files_count : (files : List (List ℕ)) → length (join_all (map lines_of files)) ≡ newlines (join_all (map closed files))
unfolding join_all
files_count [] = unfold newlines keep in refl
files_count (f ∷ fs) =
    let one : length (lines_of f) ≡ newlines (closed f) = ap length (sym (closed_lines f)) ∙ lines_count (closed f) (closed_ended f) in
    rw (length-append (lines_of f) (join_all (map lines_of fs)), newlines_append (closed f) (join_all (map closed fs))) (omega (arith, one, files_count fs))
