-- The table by kind as the code holds it.
use Rattle.std.specs.Prelude.{◌≡◌}
use Rattle.rules.specs.Kinds.{meanings, field_count, default_ttl}
use Rattle.rules.specs.declared.kinds.Kind.{Kind}
use Rattle.rows.specs.declared.rows.Row.{Row}

-- what the table has of a kind
pub record IsRow (kind : Kind) (row : Row) : Type 0 where
  pub count : row.count ≡ field_count kind
  pub ttl : row.ttl ≡ default_ttl kind
  pub meanings : row.meanings.now ≡ meanings kind
