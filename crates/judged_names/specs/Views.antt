-- What the answer means, as the rules write it.
use Rattle.std.specs.Prelude.{ℕ, length, Result, Ok, Err}
use Rattle.rules.specs.Names.{NameRead, named, misnamed}
use Rattle.judged_names.specs.declared.judged.Misnamed.{Misnamed}

-- a name by its length alone
abbrev pub judged_of : NameRead → Result ℕ Misnamed
judged_of (named wire) = Ok (length wire)
judged_of (misnamed fault place) = Err (record { fault = fault; place = place })
