-- Sources joined: their records in turn, and the first refusal further down.
use mathlib.Core.Path.{◌≡◌, refl, sym, ap, ◌∙◌}
use Prim.Native.Nat.{ℕ, suc, ◌+◌, ◌≤◌}
use native.Mathlib.Omega.{arith}
use mathlib.Core.Bool.{Bool, true, false, not}
use mathlib.Core.List.{List, [], ◌∷◌, ◌++◌, map, map-append, append-nil}
use lib.ListN.{length}
use lib.Dec.{T}
use lib.Arith.{le→nltb}
use Rattle.rules.specs.declared.faults.Answer.{Answer}
use Rattle.rules.specs.Lists.{Each, total, pick, all, join_all}
use Rattle.rules.specs.Kinds.{lines_of}
use Rattle.rules.specs.Records.{Record}
use Rattle.rules.specs.Bytes.{encode, size_of_all, bytes_of}
use Rattle.rules.specs.Answers.{is_done, is_good, line_records, line_fault, longest_source, source_records, answer, judge_lines, judge_source, if_room, compile_answer}
use Rattle.rules.specs.Demands.{Accepted, bytes_needed, CompilingRefusesExactly}
use Rattle.rules.specs.Joining.{Joined, SourcesJoin, InTurn, AnyNumberJoin, lines_down, RefusalsMove, joined_files, FilesJoin, TheFirstRefusalDecides}
use Rattle.rules.proofs.Tests.{pick_ok, pick_yes, pick_no, and_l, and_r}
use Rattle.rules.proofs.Lists.{all_append, all_of, all_true, join_append}
use Rattle.rules.proofs.Refusals.{refuses_exactly}
use Rattle.rules.proofs.Meaning.{sizes_add, written}
use Rattle.rules.proofs.JoinedLines.{lines_append, lines_count, files_lines, ended_lines, files_count}

-- ---- records, by lines

bytes_append : (xs ys : List Record) → bytes_of (xs ++ ys) ≡ bytes_of xs ++ bytes_of ys
unfolding bytes_of
bytes_append xs ys = rw (map-append encode xs ys) (join_append (map encode xs) (map encode ys))

good_lines : (sources : List (List ℕ)) → Each Accepted sources → T (all is_good (join_all (map lines_of sources)))
unfolding join_all Accepted
good_lines [] g = unfold all in tt
good_lines (s ∷ ss) g = all_true is_good (all_append (all_of is_good (lines_of s) g.0.1) (all_of is_good (join_all (map lines_of ss)) (good_lines ss g.1)))

module _ (serial : ℕ) where
  -- the records of lines in turn
  line_records_lem : (sources : List (List ℕ)) → join_all (map (line_records serial) (join_all (map lines_of sources))) ≡ join_all (map (source_records serial) sources)
  unfolding join_all source_records
  line_records_lem [] = refl
  line_records_lem (s ∷ ss) =
      rw (map-append (line_records serial) (lines_of s) (join_all (map lines_of ss)), join_append (map (line_records serial) (lines_of s)) (map (line_records serial) (join_all (map lines_of ss))), line_records_lem ss)

  sizes_total : (sources : List (List ℕ)) → size_of_all (join_all (map (source_records serial) sources)) ≡ total (map (bytes_needed serial) sources)
  unfolding join_all total bytes_needed
  sizes_total [] = unfold size_of_all in refl
  sizes_total (s ∷ ss) = rw (sizes_add (source_records serial s) (join_all (map (source_records serial) ss)), sizes_total ss)

  needed_total : (joined : List ℕ) (sources : List (List ℕ)) → source_records serial joined ≡ join_all (map (source_records serial) sources)
      → bytes_needed serial joined ≡ total (map (bytes_needed serial) sources)
  unfolding bytes_needed
  needed_total joined sources same = ap size_of_all same ∙ sizes_total sources

  bytes_in_turn : (sources : List (List ℕ)) → bytes_of (join_all (map (source_records serial) sources)) ≡ join_all (map (λ s. bytes_of (source_records serial s)) sources)
  unfolding join_all
  bytes_in_turn [] = unfold bytes_of in refl
  bytes_in_turn (s ∷ ss) = rw (bytes_append (source_records serial s) (join_all (map (source_records serial) ss)), bytes_in_turn ss)

  -- a source whose lines are those of several, in turn
  in_turn : (joined : List ℕ) (sources : List (List ℕ)) → lines_of joined ≡ join_all (map lines_of sources) → length joined ≤ longest_source → Each Accepted sources
      → InTurn joined sources serial
  in_turn joined sources lines short g =
      let good : Accepted joined = unfold Accepted in (short, rw lines (good_lines sources g)) in
      let same : source_records serial joined ≡ join_all (map (source_records serial) sources) = unfold source_records in rw lines (line_records_lem sources) in
      record {
        accepted = good;
        records = same;
        needed = needed_total joined sources same;
        written = λ out room. written joined serial out good room ∙ ap bytes_of same ∙ bytes_in_turn sources;
      }

pub files_join : FilesJoin
unfolding FilesJoin
files_join files serial short g = in_turn serial (joined_files files) files (files_lines files) short g

pub any_number_join : AnyNumberJoin
unfolding AnyNumberJoin
any_number_join sources serial e short g = in_turn serial (join_all sources) sources (ended_lines sources e) short g

module _ (a b : List ℕ) (serial : ℕ) (g : Accepted a) (h : Accepted b) where
  -- what two give in turn, without the empty list behind them
  two : InTurn (a ++ b) (a ∷ b ∷ []) serial → Joined a b serial
  unfolding join_all total
  two both = record {
    accepted = both.accepted;
    records = both.records ∙ ap (λ (l : List Record). source_records serial a ++ l) (append-nil (source_records serial b));
    needed = omega (arith, both.needed);
    written = λ outA outB out roomA roomB room.
        rw (both.written out room, written a serial outA g roomA, written b serial outB h roomB, append-nil (bytes_of (source_records serial b)));
  }

pub sources_join : SourcesJoin
unfolding SourcesJoin join_all
sources_join a b serial t short g h =
    two a b serial g h (in_turn serial (a ++ b) (a ∷ b ∷ []) (rw (lines_append a b t, append-nil (lines_of b))) short (g, (h, tt)))

-- ---- the first refusal

-- good lines in front only move the lines behind them
judge_down : (n : ℕ) (xs ys : List (List ℕ)) → T (all is_good xs) → judge_lines n (xs ++ ys) ≡ judge_lines (n + length xs) ys
unfolding all judge_lines
judge_down n [] ys t = ap (λ (m : ℕ). judge_lines m ys) (omega arith)
judge_down n (x ∷ xs) ys t =
    pick_yes _ _ _ (and_l (is_good x) (all is_good xs) t) ∙ judge_down (suc n) xs ys (and_r (is_good x) (all is_good xs) t)
    ∙ ap (λ (m : ℕ). judge_lines m ys) (omega arith)

-- lines behind a bad one change nothing, and of what is said of it the line alone depends on the number that the first has
judge_later : (n d : ℕ) (ls ms : List (List ℕ)) (k : ℕ) → (judge_lines n ls).line ≡ suc k → judge_lines (n + d) (ls ++ ms) ≡ lines_down d (judge_lines n ls)
unfolding judge_lines answer lines_down
judge_later n d [] ms k e = absurd (omega arith)
judge_later n d (l ∷ ls) ms k e = by (is_good l) (judge_later (suc n) d ls ms k) e
  where
    bad : ℕ → Answer
    bad m = answer (line_fault l).fault m (line_fault l).field 0

    by : (b : Bool) → ((judge_lines (suc n) ls).line ≡ suc k → judge_lines (suc n + d) (ls ++ ms) ≡ lines_down d (judge_lines (suc n) ls))
        → (pick b (judge_lines (suc n) ls) (bad n)).line ≡ suc k
        → pick b (judge_lines (suc (n + d)) (ls ++ ms)) (bad (n + d)) ≡ lines_down d (pick b (judge_lines (suc n) ls) (bad n))
    by true ih e = unfold pick in ap (λ (m : ℕ). judge_lines m (ls ++ ms)) (omega arith) ∙ ih e
    by false ih e = unfold pick in refl

judged_lines : (source : List ℕ) → length source ≤ longest_source → judge_source source ≡ judge_lines 1 (lines_of source)
unfolding judge_source
judged_lines source short = pick_no _ _ _ (le→nltb longest_source (length source) short)

-- where a line is named, it is the lines that are refused, and not the room
room_line : (needed room : ℕ) → (if_room needed room).line ≡ 0
unfolding if_room answer
room_line needed room = pick_ok (λ (a : Answer). a.line ≡ 0) _ (λ t. refl) (λ t. refl)

named_line : (source : List ℕ) (serial room k : ℕ) → (compile_answer source serial room).line ≡ suc k → T (not (is_done (judge_source source).fault))
unfolding compile_answer
named_line source serial room k e = by (is_done (judge_source source).fault) e
  where
    by : (b : Bool) → (pick b (if_room (size_of_all (source_records serial source)) room) (judge_source source)).line ≡ suc k → T (not b)
    by true e = unfold pick in absurd (omega (arith, room_line (size_of_all (source_records serial source)) room))
    by false e = tt

not_done : (source : List ℕ) (serial room : ℕ) → T (not (is_done (judge_source source).fault)) → compile_answer source serial room ≡ judge_source source
unfolding compile_answer
not_done source serial room t = pick_no _ _ _ t

pub named_not_done : (source : List ℕ) (serial room k : ℕ) → (compile_answer source serial room).line ≡ suc k → T (not (is_done (compile_answer source serial room).fault))
named_not_done source serial room k e =
    let bad : T (not (is_done (judge_source source).fault)) = named_line source serial room k e in
    rw (not_done source serial room bad) bad

-- a source with good lines in front of those of a refused file
moved : (joined file : List ℕ) (front behind : List (List ℕ)) (serialFile roomFile serial room k : ℕ)
    → lines_of joined ≡ front ++ (lines_of file ++ behind) → T (all is_good front) → length joined ≤ longest_source → (compile_answer file serialFile roomFile).line ≡ suc k
    → compile_answer joined serial room ≡ lines_down (length front) (compile_answer file serialFile roomFile)
unfolding CompilingRefusesExactly lines_down answer
moved joined file front behind serialFile roomFile serial room k lines good short e =
    let bad : T (not (is_done (judge_source file).fault)) = named_line file serialFile roomFile k e in
    let is : compile_answer file serialFile roomFile ≡ judge_lines 1 (lines_of file) =
    not_done file serialFile roomFile bad ∙ judged_lines file ((refuses_exactly file serialFile roomFile).only_bad_line k e).0
    in
    let both : judge_source joined ≡ lines_down (length front) (judge_lines 1 (lines_of file)) =
    judged_lines joined short
    ∙ ap (judge_lines 1) lines
    ∙ judge_down 1 front (lines_of file ++ behind) good
    ∙ judge_later 1 (length front) (lines_of file) behind k (ap (λ (x : Answer). x.line) (sym is) ∙ e)
    in
    let same : judge_source joined ≡ lines_down (length front) (compile_answer file serialFile roomFile) = both ∙ ap (lines_down (length front)) (sym is) in
    not_done joined serial room (rw same (rw (not_done file serialFile roomFile bad) bad)) ∙ same

pub the_first_refusal_decides : TheFirstRefusalDecides
unfolding TheFirstRefusalDecides join_all
the_first_refusal_decides before file after serialFile roomFile serial room k short g e =
    moved (joined_files (before ++ (file ∷ after))) file (join_all (map lines_of before)) (join_all (map lines_of after)) serialFile roomFile serial room k lines (good_lines before g) short e
    ∙ ap (λ (n : ℕ). lines_down n (compile_answer file serialFile roomFile)) (files_count before)
  where
    lines : lines_of (joined_files (before ++ (file ∷ after))) ≡ join_all (map lines_of before) ++ (lines_of file ++ join_all (map lines_of after))
    lines = files_lines (before ++ (file ∷ after)) ∙ ap join_all (map-append lines_of before (file ∷ after)) ∙ join_append (map lines_of before) (lines_of file ∷ map lines_of after)

pub refusals_move : RefusalsMove
unfolding RefusalsMove Accepted
refusals_move a b serialB roomB serial room k t short g e =
    moved (a ++ b) b (lines_of a) [] serialB roomB serial room k (rw (lines_append a b t, append-nil (lines_of b))) g.1 short e
    ∙ ap (λ (n : ℕ). lines_down n (compile_answer b serialB roomB)) (lines_count a t)
