-- The records of a line carry its time and lo.
use mathlib.Core.Path.{◌≡◌, refl}
use Prim.Native.Nat.{ℕ}
use mathlib.Core.Bool.{Bool, true, false, not, ◌||◌}
use mathlib.Core.List.{List, [], ◌∷◌}
use Rattle.std.specs.Prelude.{Option, Some, None}
use lib.Dec.{T, eqb}
use Rattle.rules.specs.declared.kinds.Kind.{Kind}
use Rattle.rules.specs.declared.quantities.Shared.{Shared}
use Rattle.rules.specs.Lists.{pick, split_on}
use Rattle.rules.specs.Kinds.{ignored, kind_of}
use Rattle.rules.specs.Records.{Record, location, resource, lo_bytes, shared_of, resource_of, address_records, soa_shared, records_of}
use Rattle.rules.specs.Answers.{stripped_records}
use Rattle.rules.specs.Towns.{is_location_line, shared_in}
use Rattle.rules.proofs.Tests.{pick_ok}
use Rattle.rules.proofs.Lists.{All, nil, cons, all_append}

pub data Carries (s : Shared) : Record → Type 0 where
  carries : {owner lo rdata : List ℕ} {type ttl time : ℕ} → lo ≡ lo_bytes s.lo → time ≡ s.time.0
      → Carries s (resource owner type lo ttl time rdata)

pub data Located : Record → Type 0 where
  located : {prefix lo : List ℕ} → Located (location prefix lo)

one_carries : (s : Shared) (owner : List ℕ) (type : ℕ) (rdata : List ℕ) → Carries s (resource_of s owner type rdata)
unfolding resource_of
one_carries s owner type rdata = carries refl refl

soa_carries : (s : Shared) (owner : List ℕ) (type : ℕ) (rdata : List ℕ)
    → Carries s (resource_of (soa_shared s) owner type rdata)
unfolding resource_of soa_shared
soa_carries s owner type rdata = carries refl refl

address_carries : (s : Shared) (owner a : List ℕ) → All (Carries s) (address_records s owner a)
unfolding address_records
address_carries s owner [] = nil
address_carries s owner (b ∷ a) = cons (one_carries s owner _ (b ∷ a)) nil

abbrev Other : Kind → Type 0
Other Kind.Location = ⊥
Other Kind.Zone = Unit {0}
Other Kind.Delegation = Unit {0}
Other Kind.Host = Unit {0}
Other Kind.Alias = Unit {0}
Other Kind.Mail = Unit {0}
Other Kind.Service = Unit {0}
Other Kind.Text = Unit {0}
Other Kind.Pointer = Unit {0}
Other Kind.Canonical = Unit {0}
Other Kind.Authority = Unit {0}
Other Kind.Generic = Unit {0}
Other Kind.Unknown = Unit {0}

module _ (serial : ℕ) (fields : List (List ℕ)) where
  kind_carries : (k : Kind) → Other k → All (Carries (shared_of k fields)) (records_of serial k fields)
  unfolding records_of
  kind_carries Kind.Location o = absurd o
  kind_carries Kind.Zone o = cons (soa_carries _ _ _ _) (cons (one_carries _ _ _ _) (address_carries _ _ _))
  kind_carries Kind.Delegation o = cons (one_carries _ _ _ _) (address_carries _ _ _)
  kind_carries Kind.Host o = all_append (address_carries _ _ _) (cons (one_carries _ _ _ _) nil)
  kind_carries Kind.Alias o = address_carries _ _ _
  kind_carries Kind.Mail o = cons (one_carries _ _ _ _) (address_carries _ _ _)
  kind_carries Kind.Service o = cons (one_carries _ _ _ _) (address_carries _ _ _)
  kind_carries Kind.Text o = cons (one_carries _ _ _ _) nil
  kind_carries Kind.Pointer o = cons (one_carries _ _ _ _) nil
  kind_carries Kind.Canonical o = cons (one_carries _ _ _ _) nil
  kind_carries Kind.Authority o = cons (one_carries _ _ _ _) nil
  kind_carries Kind.Generic o = cons (one_carries _ _ _ _) nil
  kind_carries Kind.Unknown o = nil

-- what a stripped line gives: nothing, a location, or records that carry its time and lo
pub data Says (rs : List Record) : Bool → Option Shared → Type 0 where
  nothing : {b : Bool} → rs ≡ [] → Says rs b None
  place : All Located rs → Says rs true None
  shares : {b : Bool} (s : Shared) → T (not b) → All (Carries s) rs → Says rs b (Some s)

-- the kinds behind the first test of `kind_of`
other_kind : ℕ → Kind
other_kind b =
    pick (eqb b 46) Kind.Zone
    (pick (eqb b 38) Kind.Delegation
    (pick (eqb b 61) Kind.Host
    (pick (eqb b 43) Kind.Alias
    (pick (eqb b 64) Kind.Mail
    (pick (eqb b 83) Kind.Service
    (pick (eqb b 39) Kind.Text
    (pick (eqb b 94) Kind.Pointer
    (pick (eqb b 67) Kind.Canonical
    (pick (eqb b 90) Kind.Authority
    (pick (eqb b 58) Kind.Generic
    Kind.Unknown))))))))))

or_other : (b : Bool) (k x : Kind) → Other k → Other x → Other (pick b k x)
or_other b k x h i = pick_ok Other b (λ t. h) (λ t. i)

other_kind_lem : (b : ℕ) → Other (other_kind b)
unfolding other_kind
other_kind_lem b =
    or_other _ _ _ tt (or_other _ _ _ tt (or_other _ _ _ tt (or_other _ _ _ tt (or_other _ _ _ tt (or_other _ _ _ tt
    (or_other _ _ _ tt (or_other _ _ _ tt (or_other _ _ _ tt (or_other _ _ _ tt (or_other _ _ _ tt tt))))))))))

module _ (serial : ℕ) where
  by_tests : (fields : List (List ℕ)) (i p : Bool) (x : Kind) → Other x
      → Says (pick i [] (records_of serial (pick p Kind.Location x) fields)) p
      (pick (i || p) None (Some (shared_of (pick p Kind.Location x) fields)))
  unfolding pick records_of
  by_tests fields true p x o = nothing refl
  by_tests fields false true x o = place (cons located nil)
  by_tests fields false false x o = shares _ tt (kind_carries serial fields x o)

  pub stripped_says : (l : List ℕ) → Says (stripped_records serial l) (is_location_line l) (shared_in l)
  unfolding stripped_records is_location_line shared_in kind_of other_kind
  stripped_says [] = nothing refl
  stripped_says (k ∷ rest) =
      by_tests (split_on 58 rest) (ignored k) (eqb k 37) (other_kind k) (other_kind_lem k)
