-- The laws of the name that x gives.
use mathlib.Core.Path.{◌≡◌, ap, ◌∙◌, sym}
use mathlib.Core.Bool.{Bool, true, false}
use mathlib.Core.List.{List, ◌++◌}
use Prim.Native.Nat.{ℕ, ◌+◌, ◌-◌, ◌≤◌}
use native.Mathlib.Omega.{arith}
use borrow.Author.Rules.{rules}
use borrow.Rule.Slice.PartMut.{put_mid}
use lib.ListN.{length, take, drop, length-append}
use Rattle.rules.specs.Lists.{pick, has}
use Rattle.rules.specs.Names.{label, name_of, wire_of}
use Rattle.rules.specs.Records.{host_name}
use Rattle.buffer.specs.Put.{IsPut}
use Rattle.buffer.proofs.Puts.{behind_length, within, then, front}
use Rattle.names.specs.Views.{is_named}
use Rattle.given.specs.Given.{HostGood}

-- ---- the name that x gives

host_joined : (owner x middle : List ℕ) → has 46 x ≡ false → host_name middle owner x ≡ label x ++ label middle ++ owner
unfolding host_name pick
host_joined owner x middle e = rw e

-- a label, a second one and a name that fit
module _ (x middle owner d e : List ℕ) (a : ℕ) (fits : length (label x) + length (label middle) + length owner ≤ length d) (p : IsPut (label x) d e a) where
  pub second_fits : length (label middle) ≤ length (take (length e - a) (drop a e))
  second_fits = omega (arith, behind_length (label x) d e a p, p.count)

  module _ (f : List ℕ) (k : ℕ) (q : IsPut (label middle) (take (length e - a) (drop a e)) f k) where
    both : IsPut (label x ++ label middle) d (put_mid a (length e - a) e f) (a + k)
    both = then (label x) d e a p (label middle) f k q

    pub third_starts : a + k ≤ length (put_mid a (length e - a) e f)
    third_starts = within (label x ++ label middle) d (put_mid a (length e - a) e f) (a + k) both

    pub third_fits : length owner ≤ length (take (length (put_mid a (length e - a) e f) - (a + k)) (drop (a + k) (put_mid a (length e - a) e f)))
    third_fits = omega (arith, behind_length (label x ++ label middle) d (put_mid a (length e - a) e f) (a + k) both, p.count, q.count)

pub ruleset join_laws = (rules, within, second_fits, third_starts, third_fits)

module _ (owner x middle : List ℕ) (g : HostGood owner x middle) (dot : Bool) (e : dot ≡ has 46 x) where
  pub x_named : is_named (name_of x) ≡ true
  x_named = g.named

  pub x_itself : (r : List ℕ) → dot ≡ true → r ≡ wire_of x → r ≡ host_name middle owner x
  unfolding host_name pick
  x_itself r t n = rw (← e, t) n

  pub x_short : dot ≡ false → length x ≤ 63
  x_short t = g.label (sym e ∙ t)

  pub middle_short : length middle ≤ 63
  middle_short = g.small

  pub joined_fits : (n : ℕ) → dot ≡ false → 255 ≤ n → length (label x) + length (label middle) + length owner ≤ n
  joined_fits n t h =
      omega (arith, g.short, ap length (host_joined owner x middle (sym e ∙ t)), length-append (label x ++ label middle) owner, length-append (label x) (label middle))

  pub held_host : (d f : List ℕ) (r : ℕ) → dot ≡ false → IsPut (label x ++ label middle ++ owner) d f r → take r f ≡ host_name middle owner x
  held_host d f r t p = rw (host_joined owner x middle (sym e ∙ t)) (front _ d f r p)

pub ruleset host_laws = (rules, within, x_named, x_itself, x_short, middle_short, joined_fits, held_host)
