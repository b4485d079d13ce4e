-- What a line without a fault says of its fields.
use mathlib.Core.Path.{◌≡◌, refl}
use mathlib.Core.Bool.{true}
use mathlib.Core.List.{List, [], ◌∷◌}
use Rattle.std.specs.Prelude.{Option, Some, None}
use Prim.Native.Nat.{ℕ, ◌≤◌}
use native.Mathlib.Omega.{arith}
use lib.Dec.{T}
use lib.ListN.{length}
use Rattle.rules.specs.Kinds.{common, meanings, field_count, field_at}
use Rattle.rules.specs.Names.{NameRead, named, misnamed, name_of}
use Rattle.rules.specs.Lists.{is_some}
use Rattle.rules.specs.Fields.{name_fault, needed, unless, fault_of}
use Rattle.rules.specs.Records.{joined_names}
use Rattle.rules.specs.Answers.{is_done}
use Rattle.rules.specs.declared.faults.FieldKind.{FieldKind}
use Rattle.rules.specs.declared.kinds.Kind.{Kind}
use Rattle.rules.proofs.Lists.{All}
use Rattle.rules.proofs.GoodLines.{FieldsDone, kind_done}
use Rattle.names.specs.Views.{is_named}
use Rattle.values.specs.Ready.{Ready}

pub named_done : (r : NameRead) → T (is_done (name_fault r)) → is_named r ≡ true
unfolding name_fault is_done
named_done (named w) t = refl
named_done (misnamed f p) t = absurd t

pub needed_named : (t : List ℕ) → T (is_done (needed FieldKind.Name t (name_fault (name_of t)))) → is_named (name_of t) ≡ true
unfolding needed is_done
needed_named [] d = absurd d
needed_named (b ∷ t) d = named_done (name_of (b ∷ t)) d

-- what is read without a fault is there
pub some_done : (k : FieldKind) (o : Option (List ℕ)) → T (is_done (unless k o)) → is_some o ≡ true
unfolding unless is_done is_some
some_done k (Some x) d = refl
some_done FieldKind.Name None d = absurd d
some_done FieldKind.Address None d = absurd d
some_done FieldKind.Number None d = absurd d
some_done FieldKind.Time None d = absurd d
some_done FieldKind.Lo None d = absurd d
some_done FieldKind.Escape None d = absurd d

pub needed_some : (k : FieldKind) (t : List ℕ) (o : Option (List ℕ)) → T (is_done (needed k t (unless k o))) → is_some o ≡ true
unfolding needed is_done
needed_some k [] o d = absurd d
needed_some k (b ∷ t) o d = some_done k o d

module _ (fields : List (List ℕ)) where
  -- each field reads as its meaning
  pub done : (kind : Kind) → Ready kind fields → FieldsDone 0 (meanings kind) fields
  done kind r = (kind_done kind fields r.good).0

  pub joined_short : (kind : Kind) → Ready kind fields → All (λ n. length n ≤ 255) (joined_names kind fields)
  joined_short kind r = (kind_done kind fields r.good).1

  pub owner_named : (kind : Kind) → Ready kind fields → 3 ≤ field_count kind → is_named (name_of (field_at fields 0)) ≡ true
  unfolding meanings common field_count fault_of
  owner_named Kind.Location r h = absurd (omega arith)
  owner_named Kind.Zone r h = named_done _ (done Kind.Zone r).0
  owner_named Kind.Delegation r h = named_done _ (done Kind.Delegation r).0
  owner_named Kind.Host r h = named_done _ (done Kind.Host r).0
  owner_named Kind.Alias r h = named_done _ (done Kind.Alias r).0
  owner_named Kind.Mail r h = named_done _ (done Kind.Mail r).0
  owner_named Kind.Service r h = named_done _ (done Kind.Service r).0
  owner_named Kind.Text r h = named_done _ (done Kind.Text r).0
  owner_named Kind.Pointer r h = named_done _ (done Kind.Pointer r).0
  owner_named Kind.Canonical r h = named_done _ (done Kind.Canonical r).0
  owner_named Kind.Authority r h = named_done _ (done Kind.Authority r).0
  owner_named Kind.Generic r h = named_done _ (done Kind.Generic r).0
  owner_named Kind.Unknown r h = absurd (omega arith)
