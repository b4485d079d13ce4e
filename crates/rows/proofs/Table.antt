-- The table's rule, computed once over the table, and what a row says.
use mathlib.Core.Path.{◌≡◌, refl, ap, ◌∙◌, sym}
use Prim.Native.Nat.{ℕ, ◌≤◌}
use mathlib.Core.List.{List, [], ◌∷◌, map}
use native.Mathlib.Omega.{arith}
use lib.ListN.{get_or, get_or-map}
use Rattle.rules.specs.Kinds.{common, meanings, field_count, default_ttl}
use Rattle.rules.specs.declared.kinds.Kind.{Kind}
use Rattle.rules.specs.declared.kinds.Meaning.{Meaning}
use Rattle.rows.specs.declared.rows.Row.{Row}
use Rattle.rows.specs.Rows.{IsRow}

-- a kind's place in the table
abbrev pub kind_number : Kind → ℕ
kind_number Kind.Location = 0
kind_number Kind.Zone = 1
kind_number Kind.Delegation = 2
kind_number Kind.Host = 3
kind_number Kind.Alias = 4
kind_number Kind.Mail = 5
kind_number Kind.Service = 6
kind_number Kind.Text = 7
kind_number Kind.Pointer = 8
kind_number Kind.Canonical = 9
kind_number Kind.Authority = 10
kind_number Kind.Generic = 11
kind_number Kind.Unknown = 12

unfoldable pub kinds : List Kind
kinds =
    Kind.Location ∷ Kind.Zone ∷ Kind.Delegation ∷ Kind.Host ∷ Kind.Alias ∷ Kind.Mail ∷ Kind.Service ∷ Kind.Text ∷ Kind.Pointer ∷ Kind.Canonical ∷ Kind.Authority ∷ Kind.Generic ∷ Kind.Unknown ∷ []

-- what a row says, without the place where its meanings lie
pub record Said : Type 0 where
  pub count : ℕ
  pub ttl : ℕ
  pub meanings : List Meaning

abbrev pub said : Row → Said
said row = record { count = row.count; ttl = row.ttl; meanings = row.meanings.now }

abbrev pub row_said : Kind → Said
row_said kind = record { count = field_count kind; ttl = default_ttl kind; meanings = meanings kind }

at_kind : (d : Said) (kind : Kind) → get_or (map row_said kinds) (kind_number kind) d ≡ row_said kind
unfolding kinds
at_kind d Kind.Location = refl
at_kind d Kind.Zone = refl
at_kind d Kind.Delegation = refl
at_kind d Kind.Host = refl
at_kind d Kind.Alias = refl
at_kind d Kind.Mail = refl
at_kind d Kind.Service = refl
at_kind d Kind.Text = refl
at_kind d Kind.Pointer = refl
at_kind d Kind.Canonical = refl
at_kind d Kind.Authority = refl
at_kind d Kind.Generic = refl
at_kind d Kind.Unknown = refl

-- a table whose rows are those of the kinds in turn
pub row_at : (table : List Row) (d : Row) (kind : Kind) (number : ℕ) → map said table ≡ map row_said kinds → number ≡ kind_number kind → IsRow kind (get_or table number d)
row_at table d kind number e n =
    let q : said (get_or table number d) ≡ row_said kind =
    sym (get_or-map said table number d) ∙ ap (λ (l : List Said). get_or l number (said d)) e ∙ rw n (at_kind (said d) kind) in
    record {
      count = ap (λ (r : Said). r.count) q;
      ttl = ap (λ (r : Said). r.ttl) q;
      meanings = ap (λ (r : Said). r.meanings) q;
    }

pub count_most : (kind : Kind) → field_count kind ≤ 11
unfolding field_count meanings common
count_most Kind.Location = omega arith
count_most Kind.Zone = omega arith
count_most Kind.Delegation = omega arith
count_most Kind.Host = omega arith
count_most Kind.Alias = omega arith
count_most Kind.Mail = omega arith
count_most Kind.Service = omega arith
count_most Kind.Text = omega arith
count_most Kind.Pointer = omega arith
count_most Kind.Canonical = omega arith
count_most Kind.Authority = omega arith
count_most Kind.Generic = omega arith
count_most Kind.Unknown = omega arith
