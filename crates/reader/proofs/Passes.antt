-- The passes over the part of a stream that may answer, and what is said of what they find.
use mathlib.Core.Path.{◌≡◌, refl, ap, ◌∙◌, sym}
use mathlib.Core.Bool.{Bool, true, false, not}
use mathlib.Core.List.{List}
use Prim.Native.Nat.{ℕ, ◌<◌, ◌≤◌}
use native.Mathlib.Omega.{arith}
use borrow.Author.Rules.{rules}
use borrow.Author.Tests.{eq-eqb, ne_eqb, le-leb, lt-leb, not-true, not-false}
use Rattle.rules.specs.declared.quantities.Ttl.{Ttl}
use Rattle.rules.specs.declared.replies.AskFault.{AskFault}
use Rattle.rules.specs.declared.replies.Outcome.{Outcome}
use Rattle.rules.specs.declared.replies.Reply.{Reply}
use Rattle.rules.specs.declared.replies.Response.{Response}
use Rattle.rules.specs.Lists.{pick}
use Rattle.rules.specs.Records.{Record}
use Rattle.ranks.specs.Ranks.{largest, seen_rank}
use Rattle.ranks.specs.declared.Role.{Role}
use Rattle.picks.specs.Picks.{picked_from}
use Rattle.reader.specs.Answers.{is_found, said, level_from, zone_from, controlled_from, answered_from}

-- ---- what is said

module _ (reply : Reply) where
  pub found : (type : ℕ) (life : Ttl) (place count : ℕ) → reply ≡ Reply.Found type life place count → true ≡ is_found reply
  unfolding is_found
  found type life place count e = rw e

pub none_found : false ≡ is_found Reply.NoMore
unfolding is_found
none_found = refl

pub refused_found : (fault : AskFault) → false ≡ is_found (Reply.Refused fault)
unfolding is_found
refused_found fault = refl

pub ruleset found_laws = (rules, found, none_found, refused_found)

pub says : (outcome : Outcome) (reply : Reply) → record { outcome = outcome; reply = reply } ≡ said outcome reply
unfolding said
says outcome reply = refl

pub ruleset say_laws = (rules, says)

module _ (type : ℕ) (name here : List ℕ) (moment ordinal : ℕ) (rs : List Record) (r : Response) where
  module _ (best : ℕ) (first : Reply) (f : first ≡ picked_from type Role.Level name here moment best 0 0 rs) (t : Bool) (q : t ≡ is_found first) where
    tested : is_found (picked_from type Role.Level name here moment best 0 0 rs) ≡ t
    tested = sym (q ∙ ap is_found f)

    pub no_type : not t ≡ true → r ≡ said Outcome.NoSuchType Reply.NoMore → r ≡ level_from type name here moment best ordinal rs
    unfolding level_from pick
    no_type n e = rw (tested, not-true t n) e

    pub of_first : not t ≡ false → ordinal ≡ 0 → r ≡ said Outcome.Records first → r ≡ level_from type name here moment best ordinal rs
    unfolding level_from pick
    of_first n z e = rw (tested, not-false t n, z, ← f) e

    pub of_type_lem : (reply : Reply) → not t ≡ false → reply ≡ picked_from type Role.Level name here moment best 0 ordinal rs → r ≡ said Outcome.Records reply → r ≡ level_from type name here moment best ordinal rs
    unfolding level_from pick
    of_type_lem reply n p e = rw (tested, not-false t n, ← p) e

  module _ (control best : ℕ) (b : best ≡ largest (seen_rank Role.Level name here moment) rs) where
    pub too_high : best < control → r ≡ said Outcome.NoSuchName Reply.NoMore → r ≡ zone_from type name here moment control ordinal rs
    unfolding zone_from pick
    too_high h e = rw (← b, lt-leb control best h) e

    pub low_enough : control ≤ best → r ≡ level_from type name here moment best ordinal rs → r ≡ zone_from type name here moment control ordinal rs
    unfolding zone_from pick
    low_enough h e = rw (← b, le-leb control best h) e

  module _ (control : ℕ) (soa : Reply) (f : soa ≡ picked_from 255 Role.Zone name here moment control 0 0 rs) (t : Bool) (q : t ≡ is_found soa) where
    asked : is_found (picked_from 255 Role.Zone name here moment control 0 0 rs) ≡ t
    asked = sym (q ∙ ap is_found f)

    pub delegated : (reply : Reply) → not t ≡ true → reply ≡ picked_from 255 Role.Control name here moment control 0 ordinal rs → r ≡ said Outcome.Referral reply → r ≡ controlled_from type name here moment control ordinal rs
    unfolding controlled_from pick
    delegated reply n p e = rw (asked, not-true t n, ← p) e

    pub zoned : not t ≡ false → r ≡ zone_from type name here moment control ordinal rs → r ≡ controlled_from type name here moment control ordinal rs
    unfolding controlled_from pick
    zoned n e = rw (asked, not-false t n) e

  module _ (control : ℕ) (c : control ≡ largest (seen_rank Role.Control name here moment) rs) where
    pub nobody : control ≡ 0 → r ≡ said Outcome.NotOurs Reply.NoMore → r ≡ answered_from type name here moment ordinal rs
    unfolding answered_from pick
    nobody z e = rw (← c, eq-eqb control 0 z) e

    pub somebody : (control ≡ 0 → ⊥) → r ≡ controlled_from type name here moment control ordinal rs → r ≡ answered_from type name here moment ordinal rs
    unfolding answered_from pick
    somebody z e = rw (← c, ne_eqb control 0 z) e

pub above_zero : (n : ℕ) → (n ≡ 0 → ⊥) → 0 < n
above_zero n h = omega arith

pub above : (m n : ℕ) → 0 < m → m ≤ n → 0 < n
above m n h k = omega arith

pub ruleset level_laws = (rules, no_type, of_first, of_type_lem)

pub ruleset zone_laws = (rules, too_high, low_enough, above)

pub ruleset control_laws = (rules, delegated, zoned)

pub ruleset answer_laws = (rules, nobody, somebody, above_zero)
