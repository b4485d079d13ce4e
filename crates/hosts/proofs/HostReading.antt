-- The laws of what is read of a line with a field x.
use mathlib.Core.Path.{◌≡◌, sym}
use mathlib.Core.Bool.{true, false, true≢false}
use mathlib.Core.List.{List}
use Prim.Native.Nat.{ℕ, ◌≤◌}
use native.Mathlib.Omega.{arith}
use lib.Dec.{T}
use lib.ListN.{length}
use Rattle.rules.specs.Lists.{has}
use Rattle.rules.specs.Kinds.{common, meanings, field_count, field_at}
use Rattle.rules.specs.Names.{wire_of}
use Rattle.rules.specs.Fields.{fault_of}
use Rattle.rules.specs.Records.{ns, mx, srv, host_name, joined_names}
use Rattle.rules.specs.Answers.{is_done}
use Rattle.rules.specs.declared.kinds.Kind.{Kind}
use Rattle.rules.specs.declared.kinds.Meaning.{Meaning}
use Rattle.rules.proofs.Lists.{all_head}
use Rattle.rules.proofs.Fields.{host_label}
use Rattle.values.specs.Ready.{Ready}
use Rattle.given.specs.Given.{HostGood}
use Rattle.hosts.specs.HostLines.{middle_of, names_host}
use Rattle.values.proofs.Readiness.{named_done, done, joined_short}

-- ---- a line that is ready

host_short_lem : (t : List ℕ) → T (is_done (fault_of Meaning.HostPart t)) → has 46 t ≡ false → length t ≤ 63
host_short_lem t d e = host_label t d (rw e tt)

good_host : (owner x middle : List ℕ) → length middle ≤ 63 → T (is_done (fault_of Meaning.HostPart x)) → length (host_name middle owner x) ≤ 255 → HostGood owner x middle
unfolding fault_of
good_host owner x middle m d h = record { named = named_done _ d; label = host_short_lem x d; small = m; short = h }

pub host_count : (kind : Kind) → names_host kind ≡ true → 3 ≤ field_count kind
unfolding meanings common field_count
host_count Kind.Location h = absurd (true≢false (sym h))
host_count Kind.Zone h = omega arith
host_count Kind.Delegation h = omega arith
host_count Kind.Host h = omega arith
host_count Kind.Alias h = omega arith
host_count Kind.Mail h = omega arith
host_count Kind.Service h = omega arith
host_count Kind.Text h = omega arith
host_count Kind.Pointer h = omega arith
host_count Kind.Canonical h = omega arith
host_count Kind.Authority h = omega arith
host_count Kind.Generic h = omega arith
host_count Kind.Unknown h = absurd (true≢false (sym h))

module _ (fields : List (List ℕ)) where
  host_ok : (kind : Kind) → Ready kind fields → names_host kind ≡ true → HostGood (wire_of (field_at fields 0)) (field_at fields 2) (middle_of kind)
  unfolding meanings common joined_names middle_of ns mx srv fault_of
  host_ok Kind.Location r h = absurd (true≢false (sym h))
  host_ok Kind.Zone r h = good_host _ _ _ (omega arith) (done fields Kind.Zone r).1.1.0 (all_head (joined_short fields Kind.Zone r))
  host_ok Kind.Delegation r h = good_host _ _ _ (omega arith) (done fields Kind.Delegation r).1.1.0 (all_head (joined_short fields Kind.Delegation r))
  host_ok Kind.Host r h = absurd (true≢false (sym h))
  host_ok Kind.Alias r h = absurd (true≢false (sym h))
  host_ok Kind.Mail r h = good_host _ _ _ (omega arith) (done fields Kind.Mail r).1.1.0 (all_head (joined_short fields Kind.Mail r))
  host_ok Kind.Service r h = good_host _ _ _ (omega arith) (done fields Kind.Service r).1.1.0 (all_head (joined_short fields Kind.Service r))
  host_ok Kind.Text r h = absurd (true≢false (sym h))
  host_ok Kind.Pointer r h = absurd (true≢false (sym h))
  host_ok Kind.Canonical r h = absurd (true≢false (sym h))
  host_ok Kind.Authority r h = absurd (true≢false (sym h))
  host_ok Kind.Generic r h = absurd (true≢false (sym h))
  host_ok Kind.Unknown r h = absurd (true≢false (sym h))

  pub host_ready : (kind : Kind) (owner middle : List ℕ) → Ready kind fields → names_host kind ≡ true → middle ≡ middle_of kind → owner ≡ wire_of (field_at fields 0) → HostGood owner (field_at fields 2) middle
  host_ready kind owner middle r h e n = rw (e, n) (host_ok kind r h)
