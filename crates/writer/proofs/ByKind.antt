-- The laws of a line written by its kind.
use mathlib.Core.Path.{◌≡◌, refl, ap, ◌∙◌, sym, subst}
use mathlib.Core.Bool.{Bool, true, false}
use mathlib.Core.List.{List, ◌∷◌}
use Prim.Native.Nat.{ℕ, ◌-◌, ◌≤◌}
use Rattle.std.specs.Prelude.{Option, Some, None, IsSome, option_map}
use native.Mathlib.Omega.{arith}
use lib.Dec.{nltb→le}
use lib.ListN.{length, get_or, take, drop, length-take, length-drop}
use Rattle.rules.specs.Lists.{pick, split_on, join_all}
use Rattle.rules.specs.Kinds.{ignored, kind_of, field_count}
use Rattle.rules.specs.Records.{Record, records_of}
use Rattle.rules.specs.Bytes.{bytes_of}
use Rattle.rules.specs.Answers.{is_done, whole_line, kind_fault, stripped_fault, is_good, stripped_records, line_records}
use Rattle.rules.specs.declared.kinds.Kind.{Kind}
use Rattle.rules.proofs.Tests.{pick_ok}
use Rattle.rules.proofs.GoodLines.{Done, line_done}
use Rattle.buffer.specs.Put.{IsPut}
use Rattle.kinds.specs.Strips.{IsStripped}
use Rattle.kinds.proofs.Stripping.{parted_line}
use Rattle.splits.specs.Few.{if_few}
use Rattle.splits.specs.Texts.{fields_of}
use Rattle.splits.specs.declared.splits.Fields.{Fields}
use Rattle.splits.proofs.Splitting.{few_there, field_short}
use Rattle.values.specs.Ready.{Ready}
use Rattle.writer.specs.GoodLine.{GoodRest}

-- ---- each kind: only a zone and an authority use the serial

module _ (serial : ℕ) (fields : List (List ℕ)) where
  pub zone_serial : records_of serial Kind.Zone fields ≡ records_of serial Kind.Zone fields
  zone_serial = refl

  pub authority_serial : records_of serial Kind.Authority fields ≡ records_of serial Kind.Authority fields
  authority_serial = refl

  pub delegation_serial : records_of serial Kind.Delegation fields ≡ records_of 0 Kind.Delegation fields
  unfolding records_of
  delegation_serial = refl

  pub host_serial : records_of serial Kind.Host fields ≡ records_of 0 Kind.Host fields
  unfolding records_of
  host_serial = refl

  pub alias_serial : records_of serial Kind.Alias fields ≡ records_of 0 Kind.Alias fields
  unfolding records_of
  alias_serial = refl

  pub mail_serial : records_of serial Kind.Mail fields ≡ records_of 0 Kind.Mail fields
  unfolding records_of
  mail_serial = refl

  pub service_serial : records_of serial Kind.Service fields ≡ records_of 0 Kind.Service fields
  unfolding records_of
  service_serial = refl

  pub location_serial : records_of serial Kind.Location fields ≡ records_of 0 Kind.Location fields
  unfolding records_of
  location_serial = refl

  pub text_serial : records_of serial Kind.Text fields ≡ records_of 0 Kind.Text fields
  unfolding records_of
  text_serial = refl

  pub pointer_serial : records_of serial Kind.Pointer fields ≡ records_of 0 Kind.Pointer fields
  unfolding records_of
  pointer_serial = refl

  pub canonical_serial : records_of serial Kind.Canonical fields ≡ records_of 0 Kind.Canonical fields
  unfolding records_of
  canonical_serial = refl

  pub generic_serial : records_of serial Kind.Generic fields ≡ records_of 0 Kind.Generic fields
  unfolding records_of
  generic_serial = refl

-- where a kind is found to be another's name
module _ (fields : List (List ℕ)) (k kind : Kind) (e : k ≡ kind) where
  pub ready_as : Ready k fields → Ready kind fields
  ready_as r = subst (λ (x : Kind). Ready x fields) e r

  module _ (serial : ℕ) (rs : List Record) (q : records_of serial kind fields ≡ rs) where
    pub room_as : (n : ℕ) → length (bytes_of (records_of serial k fields)) ≤ n → length (bytes_of rs) ≤ n
    room_as n h = rw (← q, ← e) h

    pub put_as : (d f : List ℕ) (r : ℕ) → IsPut (bytes_of rs) d f r → IsPut (bytes_of (records_of serial k fields)) d f r
    put_as d f r p = rw (e, q) p

pub nothing_as : (fields : List (List ℕ)) (k : Kind) (serial : ℕ) (d : List ℕ) → k ≡ Kind.Unknown → IsPut (bytes_of (records_of serial k fields)) d d 0
unfolding records_of bytes_of join_all
nothing_as fields k serial d e = rw e (record { count = refl; room = omega arith; holds = refl })

-- ---- the fields behind the kind byte

-- a kind without a fault has no more fields than its row says
counted : (kind : Kind) (fields : List (List ℕ)) → Done (kind_fault kind fields) → length fields ≤ field_count kind
unfolding kind_fault whole_line is_done
counted kind fields =
    pick_ok (λ f. Done f → Few) _ (λ t d. absurd d) (λ t. pick_ok (λ f. Done f → Few) _ (λ u d. absurd d) (λ u d. nltb→le (field_count kind) (length fields) u))
  where
    Few : Type 0
    Few = length fields ≤ field_count kind

-- so they are found, and can be written
module _ (kind : Kind) (s : List ℕ) (o : Option (List (List ℕ))) (g : GoodRest kind s) (p : o ≡ if_few (field_count kind) (split_on 58 s)) where
  found : o ≡ Some (split_on 58 s)
  found = p ∙ few_there (field_count kind) (split_on 58 s) (counted kind (split_on 58 s) g.good)

  pub fields_there : IsSome o
  fields_there = rw found refl

  module _ (fields : List (List ℕ)) (q : o ≡ Some fields) where
    fields_are : split_on 58 s ≡ fields
    fields_are = let e : Some (split_on 58 s) ≡ Some fields = sym found ∙ q in cc

    pub ready_of : Ready kind fields
    ready_of = rw (← fields_are) (record { short = λ i. field_short s i 1024 g.short; good = g.good })

    module _ (serial : ℕ) where
      pub fields_room : (n : ℕ) → length (bytes_of (records_of serial kind (split_on 58 s))) ≤ n → length (bytes_of (records_of serial kind fields)) ≤ n
      fields_room n h = rw (← fields_are) h

      pub fields_put : (d f : List ℕ) (r : ℕ) → IsPut (bytes_of (records_of serial kind fields)) d f r → IsPut (bytes_of (records_of serial kind (split_on 58 s))) d f r
      fields_put d f r w = rw fields_are w

some_mapped : {A B : Type 0} (f : A → B) (o : Option A) → IsSome (option_map f o) → IsSome o
some_mapped f None h = h
some_mapped f (Some x) h = h

-- the same of what the line splitter answers, whose texts these are
module _ (kind : Kind) (s : List ℕ) (o : Option Fields) (g : GoodRest kind s) (p : option_map fields_of o ≡ if_few (field_count kind) (split_on 58 s)) where
  pub split_there : IsSome o
  split_there = some_mapped fields_of o (fields_there kind s (option_map fields_of o) g p)

  module _ (split : Fields) (q : o ≡ Some split) where
    texts : option_map fields_of o ≡ Some (fields_of split)
    texts = ap (option_map fields_of) q

    pub split_ready : Ready kind (fields_of split)
    split_ready = ready_of kind s (option_map fields_of o) g p (fields_of split) texts

    module _ (serial : ℕ) where
      pub split_room : (n : ℕ) → length (bytes_of (records_of serial kind (split_on 58 s))) ≤ n → length (bytes_of (records_of serial kind (fields_of split))) ≤ n
      split_room = fields_room kind s (option_map fields_of o) g p (fields_of split) texts serial

      pub split_put : (d f : List ℕ) (r : ℕ) → IsPut (bytes_of (records_of serial kind (fields_of split))) d f r → IsPut (bytes_of (records_of serial kind (split_on 58 s))) d f r
      split_put = fields_put kind s (option_map fields_of o) g p (fields_of split) texts serial

-- ---- a line

module _ (serial : ℕ) (line : List ℕ) (n : ℕ) (good : is_good line ≡ true) (p : IsStripped line n) where
  records_are : line_records serial line ≡ stripped_records serial (take n line)
  unfolding line_records
  records_are = rw (← p.left)

  pub nothing_left : (d : List ℕ) → n ≡ 0 → IsPut (bytes_of (line_records serial line)) d d 0
  unfolding stripped_records bytes_of join_all
  nothing_left d z = rw (records_are, z) (record { count = refl; room = omega arith; holds = refl })

  module _ (there : n ≡ 0 → ⊥) where
    parted : take n line ≡ get_or line 0 0 ∷ take (n - 1) (drop 1 line)
    parted = parted_line line n there p.most

    pub comment : (d : List ℕ) (t : Bool) → t ≡ ignored (get_or line 0 0) → t ≡ true → IsPut (bytes_of (line_records serial line)) d d 0
    unfolding stripped_records bytes_of join_all pick
    comment d t e q = rw (records_are, parted, ← e, q) (record { count = refl; room = omega arith; holds = refl })

    module _ (t : Bool) (k : Kind) (e : t ≡ ignored (get_or line 0 0)) (q : t ≡ false) (f : k ≡ kind_of (get_or line 0 0)) where
      rest_records : line_records serial line ≡ records_of serial k (split_on 58 (take (n - 1) (drop 1 line)))
      unfolding stripped_records pick
      rest_records = rw (records_are, parted, ← e, q, f)

      pub good_rest : GoodRest k (take (n - 1) (drop 1 line))
      unfolding stripped_fault pick
      good_rest =
          let two = line_done line (rw good tt) in
          record {
            short = omega (arith, two.0, p.most, length-take (n - 1) (drop 1 line), length-drop 1 line);
            good = rw (← p.left, parted, ← e, q, ← f) at two.1;
          }

      pub rest_room : (m : ℕ) → length (bytes_of (line_records serial line)) ≤ m → length (bytes_of (records_of serial k (split_on 58 (take (n - 1) (drop 1 line))))) ≤ m
      rest_room m h = rw (← rest_records) h

      pub rest_put : (d o : List ℕ) (r : ℕ) → IsPut (bytes_of (records_of serial k (split_on 58 (take (n - 1) (drop 1 line))))) d o r → IsPut (bytes_of (line_records serial line)) d o r
      rest_put d o r w = rw rest_records w
