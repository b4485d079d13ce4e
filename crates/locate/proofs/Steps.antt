-- One record of the pass: a prefix, a location, a record that may answer or not.
use mathlib.Core.Path.{◌≡◌, refl, ap, ◌∙◌, sym}
use mathlib.Core.Bool.{Bool, true, false, not, ◌&&◌, ◌||◌, and-true, and-false}
use mathlib.Core.List.{List, [], ◌∷◌, map}
use Rattle.std.specs.Prelude.{Option, Some, None}
use Rattle.std.specs.List.{starts_with}
use Prim.Native.Nat.{ℕ, suc, ◌+◌, ◌*◌, ◌-◌, ◌<◌, ◌≤◌}
use native.Mathlib.Omega.{arith}
use native.Mathlib.Numerals.{add-one}
use borrow.Author.Rules.{rules}
use borrow.Author.Tests.{eq-eqb, ne_eqb, le-leb, lt-leb, not-true, not-false}
use lib.ListN.{length, take, drop, get_or, length-drop, length-map}
use lib.Dec.{eqb}
use Rattle.rules.specs.declared.quantities.Lo.{Lo}
use Rattle.rules.specs.declared.quantities.Shared.{Shared}
use Rattle.rules.specs.Lists.{pick, lower, begins_with}
use Rattle.rules.specs.Records.{location, resource, lo_bytes}
use Rattle.rules.specs.Bytes.{wild}
use Rattle.rules.specs.Questions.{matches, better}
use Rattle.rules.specs.Reading.{record_in}
use Rattle.wire.proofs.Parts.{tail_lent}
use Rattle.judge.specs.declared.Seen.{Seen}
use Rattle.judge.specs.Seen.{owner_of, seen_record}
use Rattle.judge.proofs.Shapes.{shaped, is_resource, good_key_lem, owner_wild}
use Rattle.ranks.specs.Ranks.{ends_in}
use Rattle.locate.specs.declared.Located.{Located}
use Rattle.locate.specs.declared.Step.{Step}
use Rattle.locate.specs.Locations.{best_seen}
use Rattle.locate.specs.declared.Part.{Part}
use Rattle.locate.specs.Grown.{grown_to}
use Rattle.locate.specs.Steps.{plain, may_answer, may_control, related_step, step_seen, step_of}
use Rattle.locate.proofs.Types.{type_is}

-- ---- a prefix

starts_is : (xs prefix : List ℕ) → starts_with eqb xs prefix ≡ begins_with prefix xs
unfolding begins_with
starts_is xs [] = refl
starts_is [] (p ∷ prefix) = refl
starts_is (x ∷ xs) (p ∷ prefix) = ap (λ (b : Bool). eqb p x && b) (starts_is xs prefix)

pub other_client : (client prefix : List ℕ) → (length client ≡ 4 → ⊥) → eqb (length prefix) 0 ≡ matches client prefix
unfolding matches begins_with
other_client client [] h = rw (ne_eqb _ _ h)
other_client client (x ∷ prefix) h = rw (ne_eqb _ _ h, ne_eqb (suc (length prefix)) 0 (λ e. omega arith), and-false)

pub client_of_four : (client prefix : List ℕ) (t : Bool) → length client ≡ 4 → t ≡ starts_with eqb client prefix → t ≡ matches client prefix
unfolding matches
client_of_four client prefix t h q = rw (eq-eqb _ _ h, q, starts_is client prefix, and-true)

pub ruleset matches_laws = (rules, other_client, client_of_four)

-- ---- a location

module _ (client key : List ℕ) (located : Located) (found : Lo) (t : Bool) (m : t ≡ matches client (take (length key - 2) (drop 2 key))) where
  is_match : matches client (drop 2 key) ≡ t
  is_match = sym (m ∙ ap (matches client) (tail_lent key 2))

  pub no_match : not t ≡ true → best_seen located ≡ better client (best_seen located) (location (drop 2 key) (lo_bytes found))
  unfolding better pick
  no_match n = rw (is_match, not-true t n)

  pub too_short : not t ≡ false → length key - 2 < located.least → best_seen located ≡ better client (best_seen located) (location (drop 2 key) (lo_bytes found))
  unfolding best_seen better pick
  too_short n h = rw (is_match, not-false t n, lt-leb located.least (length (drop 2 key)) (omega (arith, length-drop 2 key)))

  pub longer : not t ≡ false → located.least ≤ length key - 2
      → best_seen (record { lo = found; least = length key - 2 + 1 }) ≡ better client (best_seen located) (location (drop 2 key) (lo_bytes found))
  unfolding best_seen better pick
  longer n h = rw (is_match, not-false t n, le-leb located.least (length (drop 2 key)) (omega (arith, length-drop 2 key)), length-drop 2 key, add-one)

pub ruleset better_laws = (rules, no_match, too_short, longer)

-- ---- one record

module _ (name key rdata : List ℕ) where
  pub step_broken : (o : Option Seen) → seen_record key rdata o ≡ record_in key rdata → o ≡ None → step_seen None ≡ step_of name key (record_in key rdata)
  unfolding seen_record step_seen step_of
  step_broken o e q = rw (← e, q)

  module _ (seen : Seen) (e : seen_record key rdata (Some seen) ≡ record_in key rdata) where
    pub step_location : (found : Lo) → seen ≡ Seen.Location found → step_seen (Some (Step.Location found)) ≡ step_of name key (record_in key rdata)
    unfolding seen_record step_seen step_of
    step_location found q = rw (← e, q)

    module _ (w : Bool) (type : ℕ) (shared : Shared) (fixed : ℕ) (q : seen ≡ Seen.Resource w type shared fixed) (t : Bool) (k : t ≡ ends_in name key) where
      some_is : Some seen ≡ Some (Seen.Resource w type shared fixed)
      some_is = ap (λ (x : Seen). Some x) q

      owned : record_in key rdata ≡ Some (resource (owner_of w key) type (lo_bytes shared.lo) shared.ttl.0 shared.time.0 (drop fixed rdata))
      owned = is_resource key rdata (Some seen) e w type shared fixed some_is

      marked : wild (owner_of w key) ≡ w
      marked = owner_wild w key (good_key_lem key rdata (Some seen) e w type shared fixed some_is)

      pub step_other : not t ≡ true → step_seen (Some (Step.Owned false false)) ≡ step_of name key (record_in key rdata)
      unfolding step_seen step_of pick
      step_other n = rw (owned, ← k, not-true t n)

      pub data_there : 2 ≤ length rdata
      data_there = omega (arith, (shaped key rdata _ owned).long)

      pub step_related : (r : Step) (n : ℕ) → n ≡ get_or rdata 0 0 * 256 + get_or rdata 1 0 → not t ≡ false → step_seen (Some r) ≡ related_step name key w n
          → step_seen (Some r) ≡ step_of name key (record_in key rdata)
      unfolding step_of pick
      step_related r n e f h =
          let same : type ≡ n = type_is key rdata _ _ _ type _ _ owned ∙ sym e in
          rw (owned, marked, ← k, not-false t f, same) h

pub ruleset step_laws = (rules, step_broken, step_location, step_other, data_there, step_related)

-- ---- a record whose key the name ends in

pub ns_type : (type : ℕ) → type ≡ 2 → true ≡ (eqb type 2 || eqb type 6)
ns_type type e = rw e

pub soa_type : (type : ℕ) → type ≡ 6 → true ≡ (eqb type 2 || eqb type 6)
soa_type type e = rw e

pub other_type : (type : ℕ) → (type ≡ 2 → ⊥) → (type ≡ 6 → ⊥) → false ≡ (eqb type 2 || eqb type 6)
other_type type n m = rw (ne_eqb type 2 n, ne_eqb type 6 m)

pub ruleset control_laws = (rules, ns_type, soa_type, other_type)

module _ (name key : List ℕ) (w : Bool) (type : ℕ) where
  pub starred : w ≡ true → step_seen (Some (Step.Owned true false)) ≡ related_step (map lower name) key w type
  unfolding step_seen related_step may_answer may_control
  starred y = rw y

  pub ordinary : (own control : Bool) → w ≡ false → own ≡ eqb (length name) (length key) → control ≡ (eqb type 2 || eqb type 6)
      → step_seen (Some (Step.Owned own control)) ≡ related_step (map lower name) key w type
  unfolding step_seen related_step may_answer may_control
  ordinary own control y o k = rw (y, length-map name lower, o, k)

pub ruleset related_laws = (rules, starred, ordinary)

pub plain_owned : (step : Option Step) (a b : Bool) → step ≡ Some (Step.Owned a b) → not (a || b) ≡ plain (step_seen step)
unfolding plain step_seen
plain_owned step a b e = rw e

pub plain_location : (lo : Lo) → false ≡ plain (step_seen (Some (Step.Location lo)))
unfolding plain step_seen
plain_location lo = refl

pub plain_broken : false ≡ plain (step_seen None)
unfolding plain step_seen
plain_broken = refl

pub ruleset plain_laws = (rules, plain_owned, plain_location, plain_broken)

-- ---- a part

pub not_taken : (p : Option Part) (t : Bool) (at next : ℕ) → not t ≡ true → p ≡ grown_to p t at next
unfolding grown_to
not_taken p t at next n = rw (not-true t n)

pub longer_part : (p : Option Part) (t : Bool) (at next : ℕ) → not t ≡ false → (q : Part) → p ≡ Some q → Some (record { from = q.from; until = next }) ≡ grown_to p t at next
unfolding grown_to
longer_part p t at next n q e = rw (not-false t n, e)

pub new_part : (p : Option Part) (t : Bool) (at next : ℕ) → not t ≡ false → p ≡ None → Some (record { from = at; until = next }) ≡ grown_to p t at next
unfolding grown_to
new_part p t at next n e = rw (not-false t n, e)

pub ruleset grown_laws = (rules, not_taken, longer_part, new_part)
