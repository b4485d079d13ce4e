-- What a line without a fault says of its fields.
use Prim.Native.Nat.{ℕ, suc, ◌≤◌}
use mathlib.Core.Bool.{not}
use mathlib.Core.List.{List, [], ◌∷◌}
use lib.ListN.{length}
use lib.Dec.{T, leb→le, nltb→le}
use Rattle.rules.specs.declared.faults.LineFault.{LineFault}
use Rattle.rules.specs.declared.kinds.Kind.{Kind}
use Rattle.rules.specs.declared.kinds.Meaning.{Meaning}
use Rattle.rules.specs.Kinds.{strip, meanings, field_at}
use Rattle.rules.specs.Names.{longest_name}
use Rattle.rules.specs.Fields.{fault_of}
use Rattle.rules.specs.Records.{joined_names}
use Rattle.rules.specs.Answers.{is_done, then_fault, fields_fault, joined_fault, whole_line, kind_fault, stripped_fault, longest_line, line_fault, is_good}
use Rattle.rules.proofs.Tests.{pick_ok}
use Rattle.rules.proofs.Lists.{All, all_of, all_weaken}

abbrev pub Done : LineFault → Type 0
Done f = T (is_done f.fault)

-- each field from field i on reads as its meaning
abbrev pub FieldsDone : ℕ → List Meaning → List (List ℕ) → Type 0
FieldsDone i [] fields = Unit {0}
FieldsDone i (m ∷ ms) fields = T (is_done (fault_of m (field_at fields i))) × FieldsDone (suc i) ms fields

then_done : (a b : LineFault) → Done (then_fault a b) → Done a × Done b
unfolding then_fault
then_done a b = pick_ok (λ f. Done f → Done a × Done b) (is_done a.fault) (λ t d. (t, d)) (λ t d. absurd (T_not t d))
  where
    T_not : T (not (is_done a.fault)) → T (is_done a.fault) → ⊥
    T_not n d = lib.Dec.T_not (is_done a.fault) n d

fields_done : (i : ℕ) (ms : List Meaning) (fields : List (List ℕ)) → Done (fields_fault i ms fields) → FieldsDone i ms fields
unfolding fields_fault
fields_done i [] fields d = tt
fields_done i (m ∷ ms) fields d =
    let two = then_done (record { fault = fault_of m (field_at fields i); field = suc i }) (fields_fault (suc i) ms fields) d in
    (two.0, fields_done (suc i) ms fields two.1)

joined_done : (names : List (List ℕ)) → Done (joined_fault names) → All (λ n. length n ≤ 255) names
unfolding joined_fault longest_name is_done
joined_done names =
    pick_ok (λ f. Done f → All (λ n. length n ≤ 255) names) _
    (λ t d. all_weaken (λ n k. leb→le (length n) 255 k) (all_of _ names t)) (λ t d. absurd d)

pub kind_done : (k : Kind) (fields : List (List ℕ)) → Done (kind_fault k fields) → FieldsDone 0 (meanings k) fields × All (λ n. length n ≤ 255) (joined_names k fields)
unfolding kind_fault whole_line is_done
kind_done k fields =
    pick_ok (λ f. Done f → Good) _ (λ t d. absurd d)
    (λ t. pick_ok (λ f. Done f → Good) _ (λ u d. absurd d)
    (λ u d. let two = then_done (fields_fault 0 (meanings k) fields) (joined_fault (joined_names k fields)) d in
    (fields_done 0 (meanings k) fields two.0, joined_done (joined_names k fields) two.1)))
  where
    Good : Type 0
    Good = FieldsDone 0 (meanings k) fields × All (λ n. length n ≤ 255) (joined_names k fields)

-- a good line is at most 1,024 bytes long, and what is left of it has no fault
pub line_done : (l : List ℕ) → T (is_good l) → (length l ≤ 1024) × Done (stripped_fault (strip l))
unfolding is_good line_fault whole_line longest_line is_done
line_done l =
    pick_ok (λ f. Done f → (length l ≤ 1024) × Done (stripped_fault (strip l))) _ (λ t d. absurd d)
    (λ t d. (nltb→le 1024 (length l) t, d))
