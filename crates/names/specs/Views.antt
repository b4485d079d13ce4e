-- Whether a text is a name.
use Rattle.std.specs.Prelude.{Bool, true, false}
use Rattle.rules.specs.Names.{NameRead, named, misnamed}

abbrev pub is_named : NameRead → Bool
is_named (named wire) = true
is_named (misnamed fault place) = false
