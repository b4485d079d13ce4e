-- The record at a place, from the head of what is left.
use mathlib.Core.Path.{◌≡◌, refl, ap, ◌∙◌, sym}
use mathlib.Core.Bool.{true, false}
use mathlib.Core.List.{List}
use Rattle.std.specs.Prelude.{Option, Some, None}
use Prim.Native.Nat.{ℕ, zero, suc, ◌-◌, ◌<◌, ◌≤◌}
use native.Mathlib.Omega.{arith}
use borrow.Author.Rules.{rules}
use lib.ListN.{length, take, drop, length-drop}
use Rattle.rules.specs.Lists.{pick, is_some}
use Rattle.rules.specs.Reading.{record_in}
use Rattle.stream.specs.declared.Span.{Span}
use Rattle.judge.specs.declared.Seen.{Seen}
use Rattle.stream.specs.Heads.{record_at}
use Rattle.stream.specs.Spans.{part, IsSpan}
use Rattle.judge.specs.Seen.{seen_record}
use Rattle.stream.proofs.Heads.{malformed}
use Rattle.places.specs.Places.{places_at, found_at}

module _ (bytes : List ℕ) (at : ℕ) where
  pub at_end : length bytes ≤ at → None ≡ found_at bytes at
  unfolding found_at is_some pick
  at_end h = rw (malformed (drop at bytes) (omega (arith, length-drop at bytes)))

  module _ (span : Span) (i : IsSpan bytes at span) where
    module _ (o : Option Seen) (is : seen_record (take (span.middle - span.start) (drop span.start bytes)) (take (span.next - span.middle) (drop span.middle bytes)) o
        ≡ record_in (take (span.middle - span.start) (drop span.start bytes)) (take (span.next - span.middle) (drop span.middle bytes))) where
      seen_there : record_at (drop at bytes) ≡ seen_record (part bytes span.start span.middle) (part bytes span.middle span.next) o
      unfolding part
      seen_there = i.here ∙ sym is

      pub malformed_there : o ≡ None → None ≡ found_at bytes at
      unfolding found_at seen_record is_some pick
      malformed_there q = rw (seen_there, q)

      module _ (seen : Seen) (q : o ≡ Some seen) where
        whole : is_some (record_at (drop at bytes)) ≡ true
        whole = rw (seen_there, q) (go seen)
          where
            go : (seen : Seen) → is_some (seen_record (part bytes span.start span.middle) (part bytes span.middle span.next) (Some seen)) ≡ true
            go (Seen.Location lo) = unfold seen_record is_some in refl
            go (Seen.Resource wild type shared fixed) = unfold seen_record is_some in refl

        -- no record has an empty key
        key_there : span.start < span.middle
        unfolding record_in is_some part
        key_there = go (span.middle - span.start) refl
          where
            go : (n : ℕ) → span.middle - span.start ≡ n → span.start < span.middle
            go zero e = let t : true ≡ false = sym whole ∙ ap is_some i.here ∙ rw e in let z : ◌≡◌ {A = ℕ} 0 1 = cc in absurd (omega arith)
            go (suc n) e = omega arith

        pub whole_there : Some (record { key = span.start; rdata = span.middle; next = span.next }) ≡ found_at bytes at
        unfolding found_at places_at pick
        whole_there = rw (whole, i.lengths_first key_there, i.key_ends key_there, i.data_end key_there)

pub ruleset place_laws = (rules, at_end, malformed_there, whole_there)
