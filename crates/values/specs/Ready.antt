-- A line that can be written: it has no fault.
use Rattle.std.specs.Prelude.{List, ℕ, ◌≤◌, length, T}
use Rattle.rules.specs.Kinds.{field_at}
use Rattle.rules.specs.Answers.{is_done, kind_fault}
use Rattle.rules.specs.declared.kinds.Kind.{Kind}

pub record Ready (kind : Kind) (fields : List (List ℕ)) : Type 0 where
  pub short : (i : ℕ) → length (field_at fields i) ≤ 1024
  pub good : T (is_done (kind_fault kind fields).fault)
