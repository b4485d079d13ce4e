-- What stands behind the kind byte of a good line.
use Rattle.std.specs.Prelude.{List, ℕ, ◌≤◌, length, T}
use Rattle.rules.specs.Lists.{split_on}
use Rattle.rules.specs.Answers.{is_done, kind_fault}
use Rattle.rules.specs.declared.kinds.Kind.{Kind}

-- what stands behind the kind byte of a good line
pub record GoodRest (kind : Kind) (s : List ℕ) : Type 0 where
  pub short : length s ≤ 1024
  pub good : T (is_done (kind_fault kind (split_on 58 s)).fault)
