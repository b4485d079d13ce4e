-- The lines with one record, whose data are the name of field 1.
use Rattle.std.specs.Prelude.{◌≡◌, true, List, [], ◌∷◌, ℕ, ◌≤◌}
use Rattle.rules.specs.Kinds.{field_at, field_count}
use Rattle.rules.specs.Names.{name_of, wire_of}
use Rattle.rules.specs.Records.{records_of, resource_of, shared_of}
use Rattle.rules.specs.declared.kinds.Kind.{Kind}
use Rattle.names.specs.Views.{is_named}

pub record Points (kind : Kind) (fields : List (List ℕ)) (type : ℕ) : Type 0 where
  pub count : 3 ≤ field_count kind
  pub named : is_named (name_of (field_at fields 1)) ≡ true
  pub says : records_of 0 kind fields ≡ resource_of (shared_of kind fields) (wire_of (field_at fields 0)) type (wire_of (field_at fields 1)) ∷ []
