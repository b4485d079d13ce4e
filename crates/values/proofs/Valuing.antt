-- The laws of the values of fields.
use mathlib.Core.Path.{◌≡◌, ◌∙◌}
use mathlib.Core.List.{List}
use Rattle.std.specs.Prelude.{Option, Some, None, option_map}
use Rattle.std.specs.Option.{unwrap_or}
use Prim.Native.Nat.{ℕ, ◌-◌, ◌≤◌}
use native.Mathlib.Omega.{arith}
use borrow.Author.Rules.{rules}
use Rattle.rules.specs.Lists.{value_or}
use Rattle.rules.specs.Kinds.{field_at, field_count, default_ttl}
use Rattle.rules.specs.Fields.{number_of, time_of, lo_of, largest_ttl, largest_short, largest_long}
use Rattle.rules.specs.Records.{number_or, short_at, long_at, shared_of}
use Rattle.rules.specs.declared.kinds.Kind.{Kind}
use Rattle.rules.specs.declared.quantities.Lo.{Lo}
use Rattle.rules.specs.declared.quantities.Moment.{Moment}
use Rattle.rules.specs.declared.quantities.Ttl.{Ttl}
use Rattle.rules.proofs.Fields.{number_most}
use Rattle.rows.specs.Rows.{IsRow}
use Rattle.rows.specs.declared.rows.Row.{Row}
use Rattle.rows.proofs.Table.{count_most}

-- ---- a value, or its default

pub number_is : (t : List ℕ) (limit default n : ℕ) (r : Option ℕ) → r ≡ number_of limit t → n ≡ unwrap_or r default → default ≤ limit → (n ≡ number_or default limit t) × (n ≤ limit)
unfolding number_or value_or
number_is t limit default n None e u h = (rw (← e) u, omega (arith, u))
number_is t limit default n (Some m) e u h =
    let p : n ≡ number_or default limit t = rw (← e) u in
    (p, omega (arith, p, number_most default limit t h))

pub ruleset number_laws = (rules, number_is)

pub time_is : (t : List ℕ) (r : Option Moment) (m : Moment) → option_map (λ m. m.0) r ≡ time_of t → m ≡ unwrap_or r (record { 0 = 0 }) → m.0 ≡ value_or 0 (time_of t)
unfolding value_or
time_is t None m e u = rw (← e, u)
time_is t (Some n) m e u = rw (← e, u)

pub lo_is : (t : List ℕ) (r : Option Lo) (code : Lo) → r ≡ lo_of t → code ≡ unwrap_or r Lo.Every → code ≡ value_or Lo.Every (lo_of t)
unfolding value_or
lo_is t None code e u = rw (← e) u
lo_is t (Some c) code e u = rw (← e) u

pub ruleset code_laws = (rules, time_is, lo_is)

-- ---- a value of a field

module _ (fields : List (List ℕ)) (t : List ℕ) (i : ℕ) (p : t ≡ field_at fields i) where
  pub short_field : (n : ℕ) → (n ≡ number_or 0 65535 t) × (n ≤ 65535) → n ≡ short_at fields i
  unfolding short_at largest_short
  short_field n e = e.0 ∙ rw p

  pub long_field : (n default : ℕ) → (n ≡ number_or default 4294967295 t) × (n ≤ 4294967295) → n ≡ long_at default fields i
  unfolding long_at largest_long
  long_field n default e = e.0 ∙ rw p

  pub ttl_field : (n default : ℕ) → (n ≡ number_or default 2147483647 t) × (n ≤ 2147483647) → n ≡ number_or default largest_ttl (field_at fields i)
  unfolding largest_ttl
  ttl_field n default e = e.0 ∙ rw p

  pub time_field : (n : ℕ) → n ≡ value_or 0 (time_of t) → n ≡ value_or 0 (time_of (field_at fields i))
  time_field n e = e ∙ rw p

  pub lo_field : (code : Lo) → code ≡ value_or Lo.Every (lo_of t) → code ≡ value_or Lo.Every (lo_of (field_at fields i))
  lo_field code e = e ∙ rw p

pub ruleset value_laws = (rules, short_field, long_field, ttl_field, time_field, lo_field)

-- ---- what a line's records share

default_most : (kind : Kind) → default_ttl kind ≤ 2147483647
unfolding default_ttl
default_most Kind.Location = omega arith
default_most Kind.Zone = omega arith
default_most Kind.Delegation = omega arith
default_most Kind.Host = omega arith
default_most Kind.Alias = omega arith
default_most Kind.Mail = omega arith
default_most Kind.Service = omega arith
default_most Kind.Text = omega arith
default_most Kind.Pointer = omega arith
default_most Kind.Canonical = omega arith
default_most Kind.Authority = omega arith
default_most Kind.Generic = omega arith
default_most Kind.Unknown = omega arith

module _ (kind : Kind) (row : Row) (e : IsRow kind row) where
  pub default_fits : row.ttl ≤ 2147483647
  default_fits = omega (arith, e.ttl, default_most kind)

  -- the places of the last three fields
  pub last_fields : 3 ≤ field_count kind → (3 ≤ row.count) × (row.count ≤ 11)
  last_fields h = (omega (arith, e.count), omega (arith, e.count, count_most kind))

  pub shared_is : (fields : List (List ℕ)) (ttl : Ttl) (time : Moment) (lo : Lo)
      → ttl.0 ≡ number_or row.ttl largest_ttl (field_at fields (row.count - 3))
      → time.0 ≡ value_or 0 (time_of (field_at fields (row.count - 2)))
      → lo ≡ value_or Lo.Every (lo_of (field_at fields (row.count - 1)))
      → record { ttl = ttl; time = time; lo = lo } ≡ shared_of kind fields
  unfolding shared_of
  shared_is fields ttl time lo a b c =
      let p : ttl.0 ≡ number_or (default_ttl kind) largest_ttl (field_at fields (field_count kind - 3)) = a ∙ rw (e.ttl, e.count) in
      let q : time.0 ≡ value_or 0 (time_of (field_at fields (field_count kind - 2))) = b ∙ rw e.count in
      let r : lo ≡ value_or Lo.Every (lo_of (field_at fields (field_count kind - 1))) = c ∙ rw e.count in
      λ i. record { ttl = record { 0 = p i }; time = record { 0 = q i }; lo = r i }
