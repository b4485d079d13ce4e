-- 02, W14: the worked examples hold, by computation and by the theorem.
use mathlib.Core.Path.{◌≡◌, refl, sym, ap, ◌∙◌}
use Prim.Native.Nat.{ℕ}
use mathlib.Core.List.{List, head-eq_of_cons-eq, tail-eq_of_cons-eq}
use Rattle.rules.specs.Lists.{any}
use Rattle.rules.specs.Texts.{bytes}
use Rattle.rules.specs.Bench.{source_of, wire}
use Rattle.rules.specs.Towns.{stripped_lines, is_location_line, shared_in, has_lo_of, location_lines, lines_for, SameFor, without_place, handed, OtherTownsAreUnseen}
use Rattle.rules.specs.Moments.{quiet_line, quiet, ends}
use Rattle.rules.specs.Index.{is_location, matters}
use Rattle.rules.specs.TownExamples.{both, east_alone, east_client, west_client, elsewhere, far_client, counted, counted_of, expected_of, towns, east_lines, counted_rows, asked, told_at, told_up_to, told_by, address_and, address, no_record, hosts, several, change_at, changes, asked_rows, quiet_rows, ends_rows, matters_rows, EastIsToldTheSame, TownExamplesHold}
use Rattle.rules.proofs.Bench.{saying}
use Rattle.rules.proofs.Towns.{other_towns_are_unseen}

pub town_examples_hold : TownExamplesHold
unfolding saying wire stripped_lines is_location_line shared_in has_lo_of location_lines lines_for without_place handed quiet_line quiet any is_location matters both east_alone east_client west_client elsewhere far_client counted counted_of expected_of towns east_lines counted_rows asked told_at told_up_to told_by address_and address no_record hosts several change_at changes asked_rows quiet_rows ends ends_rows matters_rows
town_examples_hold = record { lines = refl; told = refl; times = refl; endings = refl; names = refl }

-- the first two rows of lines say that the sources are the same for the east
east_counted : counted_of (counted both east_client (bytes "ea") towns east_lines) ≡ counted_of (counted east_alone east_client (bytes "ea") towns east_lines)
unfolding counted_rows expected_of counted
east_counted =
    head-eq_of_cons-eq town_examples_hold.lines ∙ sym (head-eq_of_cons-eq (tail-eq_of_cons-eq town_examples_hold.lines))

east_same : SameFor east_client 7 (source_of both) (source_of east_alone)
unfolding counted_of counted
east_same = record {
  locations = ap (λ (c : List ℕ × List (List ℕ) × List (List ℕ)). c.1) east_counted;
  others =
      ap (λ (c : List ℕ × List (List ℕ) × List (List ℕ)). c.2) east_counted
      ∙ ap (λ (c : List ℕ × List (List ℕ) × List (List ℕ)). lines_for c.0 (source_of east_alone)) (sym east_counted);
}

pub east_is_told_the_same : EastIsToldTheSame
unfolding EastIsToldTheSame OtherTownsAreUnseen
east_is_told_the_same name type moment =
    other_towns_are_unseen (record { name = name; type = type; client = east_client; moment = moment }) 7 (source_of both) (source_of east_alone) east_same
