-- What a contract says of the fields of a line.
use Rattle.std.specs.Prelude.{List, ℕ}
use Rattle.rules.specs.Lists.{split_on}
use Rattle.splits.specs.declared.splits.Fields.{Fields}

-- the fields' texts
abbrev pub fields_of : Fields → List (List ℕ)
fields_of f = split_on 58 f.rest.now
