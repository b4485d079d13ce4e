-- Sources joined, over the calls.
use mathlib.Core.Path.{◌≡◌, refl, sym, ap, ◌∙◌, subst}
use mathlib.Core.Bool.{not}
use mathlib.Core.List.{List, [], ◌∷◌, ◌++◌, map}
use Prim.Native.Nat.{ℕ, suc, ◌+◌, ◌≤◌}
use native.Mathlib.Omega.{arith}
use lib.ListN.{length, take}
use lib.Dec.{T, eqb}
use Rattle.rules.specs.declared.faults.Answer.{Answer}
use Rattle.rules.specs.declared.faults.Fault.{Fault}
use Rattle.rules.specs.Lists.{Each, total, join_all}
use Rattle.rules.specs.Bytes.{bytes_of}
use Rattle.rules.specs.Answers.{fault_number, is_done, longest_source, answer, source_records, compile_answer, compile_output}
use Rattle.rules.specs.Demands.{Accepted, bytes_needed, compiled_bytes}
use Rattle.rules.specs.Joining.{lines_down, Joined, SourcesJoin, InTurn, AnyNumberJoin, RefusalsMove, FilesJoin, TheFirstRefusalDecides}
use Rattle.rules.proofs.Tests.{pick_no}
use Rattle.rules.proofs.Meaning.{written}
use Rattle.rules.proofs.Joining.{named_not_done, sources_join, any_number_join, refusals_move, files_join, the_first_refusal_decides}
use Rattle.vahmizar.specs.Joining.{Call, said, wrote, all_counted, all_wrote, Roomy, Says, Done, RefusedFurtherDown, TheCallSays, TheCallsJoin, AnyNumberOfCallsJoin, TheCallsRefuseFurtherDown, TheFilesJoin, TheFirstRefusedFileDecides}
use Rattle.vahmizar.proofs.Kept.{past, is_done_lem}

module _ {serial : ℕ} (x : Call serial) where
  say : Says x (said x)
  say = record {
    first = past 32 x.answer _ _ _ x.fits x.compiles.number;
    rest = past 32 x.answer _ _ _ x.fits x.compiles.numbers;
  }

  left : x.out' ≡ compile_output x.source serial x.out
  left = past 32 x.answer _ _ _ x.fits x.compiles.output

  -- a call with room enough: what it said, its count and its bytes
  done_by : Accepted x.source → Roomy x → said x ≡ answer Fault.Done 0 0 (bytes_needed serial x.source)
  done_by g room = is_done_lem x.source serial x.out g room

  counts : Accepted x.source → Roomy x → (said x).bytes ≡ bytes_needed serial x.source
  unfolding answer
  counts g room = ap (λ (a : Answer). a.bytes) (done_by g room)

  pub writes : wrote x ≡ compiled_bytes x.source serial x.out
  unfolding compiled_bytes
  writes = ap (take (said x).bytes) left

  pub wrote_records : Accepted x.source → Roomy x → wrote x ≡ bytes_of (source_records serial x.source)
  wrote_records g room = writes ∙ written x.source serial x.out g room

pub the_call_says : TheCallSays
unfolding TheCallSays
the_call_says serial x = say x

-- within the limit, by its bytes
within : {joined source : List ℕ} → source ≡ joined → length source ≤ longest_source → length joined ≤ longest_source
within e short = subst (λ (s : List ℕ). length s ≤ longest_source) e short

says_as : {serial : ℕ} (z : Call serial) (a : Answer) → said z ≡ a → Says z a
says_as z a e = subst (Says z) e (say z)

-- ---- records in turn

module _ {serial : ℕ} where
  abbrev source_in : Call serial → List ℕ
  source_in x = x.source

  abbrev Good : Call serial → Type 0
  Good x = Accepted x.source × Roomy x

  each_accepted : (xs : List (Call serial)) → Each Good xs → Each Accepted (map source_in xs)
  each_accepted [] g = tt
  each_accepted (x ∷ xs) g = (g.0.0, each_accepted xs g.1)

  counts_total : (xs : List (Call serial)) → Each Good xs
      → total (map (bytes_needed serial) (map source_in xs)) ≡ all_counted xs
  unfolding total
  counts_total [] g = refl
  counts_total (x ∷ xs) g = rw (counts x g.0.0 g.0.1, counts_total xs g.1)

  wrote_in_turn : (xs : List (Call serial)) → Each Good xs
      → join_all (map (λ s. bytes_of (source_records serial s)) (map source_in xs)) ≡ all_wrote xs
  unfolding join_all
  wrote_in_turn [] g = refl
  wrote_in_turn (x ∷ xs) g = rw (wrote_records x g.0.0 g.0.1, wrote_in_turn xs g.1)

  -- a call that is done, by the count and the bytes
  done_so : (z : Call serial) (count : ℕ) (records : List ℕ) → Accepted z.source → Roomy z
      → bytes_needed serial z.source ≡ count → wrote z ≡ records → Done z count records
  done_so z count records g room c w = record {
    says = says_as z (answer Fault.Done 0 0 count) (done_by z g room ∙ ap (answer Fault.Done 0 0) c);
    bytes = ap (λ (n : ℕ). take n z.out') (sym c ∙ sym (counts z g room)) ∙ w;
  }

  -- what the joined source gives, from what each gives
  in_turn : (xs : List (Call serial)) (z : Call serial) → InTurn z.source (map source_in xs) serial
      → Each Good xs → Roomy z → Done z (all_counted xs) (all_wrote xs)
  in_turn xs z t g room =
      done_so z _ _ t.accepted room (t.needed ∙ counts_total xs g) (writes z ∙ t.written z.out room ∙ wrote_in_turn xs g)

  -- the same where the joined source is put together from theirs
  in_turn_by : (xs : List (Call serial)) (z : Call serial) (joined : List ℕ)
      → z.source ≡ joined → length z.source ≤ longest_source
      → (length joined ≤ longest_source → InTurn joined (map source_in xs) serial) → Each Good xs → Roomy z
      → Done z (all_counted xs) (all_wrote xs)
  in_turn_by xs z joined e short t g room =
      let inside : InTurn joined (map source_in xs) serial = t (within e short) in
      in_turn xs z (subst (λ (s : List ℕ). InTurn s (map source_in xs) serial) (sym e) inside) g room

pub the_files_join : TheFilesJoin
unfolding TheFilesJoin FilesJoin
the_files_join serial xs z e short g room = in_turn_by xs z _ e short (λ s. files_join (map source_in xs) serial s (each_accepted xs g)) g room

pub any_number_of_calls_join : AnyNumberOfCallsJoin
unfolding AnyNumberOfCallsJoin AnyNumberJoin
any_number_of_calls_join serial xs z e t short g room = in_turn_by xs z _ e short (λ s. any_number_join (map source_in xs) serial t s (each_accepted xs g)) g room

pub the_calls_join : TheCallsJoin
unfolding TheCallsJoin SourcesJoin
the_calls_join serial x y z e t short g h roomX roomY room = done_so z _ _ (subst Accepted (sym e) both.accepted) room count bytes
  where
    both : Joined x.source y.source serial
    both = sources_join x.source y.source serial t (within e short) g h

    count : bytes_needed serial z.source ≡ (said x).bytes + (said y).bytes
    count = rw (e, counts x g roomX, counts y h roomY) both.needed

    bytes : wrote z ≡ wrote x ++ wrote y
    bytes =
        let enough : bytes_needed serial (x.source ++ y.source) ≤ length z.out = rw e at room in
        rw (writes z, writes x, writes y, e) (both.written x.out y.out z.out roomX roomY enough)

-- ---- a refusal further down

-- a fault's number isn't 0
not_zero : (f : Fault) → T (not (is_done f)) → fault_number f ≡ 0 → ⊥
unfolding is_done
not_zero f t e = subst (λ (n : ℕ). T (not (eqb n 0))) e t

refused_so : {serialY serial : ℕ} (n k : ℕ) (y : Call serialY) (z : Call serial) → (said y).line ≡ suc k
    → said z ≡ lines_down n (said y) → RefusedFurtherDown n y z
unfolding lines_down answer
refused_so {serialY} {serial} n k y z e same = record {
  refused = λ r. not_zero (said z).fault bad (sym (say z).first ∙ r);
  number = (say z).first ∙ ap (λ (a : Answer). fault_number a.fault) same ∙ sym (say y).first;
  says = says_as z (lines_down n (said y)) same;
  stays = left z ∙ kept bad;
}
  where
    bad : T (not (is_done (said z).fault))
    bad =
        let line : (said z).line ≡ suc (k + n) = ap (λ (a : Answer). a.line) same ∙ ap (λ (m : ℕ). m + n) e ∙ omega arith in
        named_not_done z.source serial (length z.out) (k + n) line

    kept : T (not (is_done (said z).fault)) → compile_output z.source serial z.out ≡ z.out
    kept b = unfold compile_output in pick_no _ _ _ b

pub the_calls_refuse_further_down : TheCallsRefuseFurtherDown
unfolding TheCallsRefuseFurtherDown RefusalsMove
the_calls_refuse_further_down serialB serial a y z k e t short g h =
    refused_so _ k y z h
    (ap (λ (s : List ℕ). compile_answer s serial (length z.out)) e
    ∙ refusals_move a y.source serialB (length y.out) serial (length z.out) k t (within e short) g h)

pub the_first_refused_file_decides : TheFirstRefusedFileDecides
unfolding TheFirstRefusedFileDecides TheFirstRefusalDecides
the_first_refused_file_decides serialY serial before y after z k e short g h =
    refused_so _ k y z h
    (ap (λ (s : List ℕ). compile_answer s serial (length z.out)) e
    ∙ the_first_refusal_decides before y.source after serialY (length y.out) serial (length z.out) k (within e short) g h)
