-- What is read of arguments and files, which the system gives.
use Rattle.std.specs.Prelude.{List, ℕ, Option, IfSome}
use Rattle.io.specs.Counts.{IsPrefixLen}

-- how many bytes at the front of a buffer are what was asked for; none where not all could be had
abbrev pub IsFront : List ℕ → Option ℕ → Type 0
IsFront buffer r = IfSome r (λ n. IsPrefixLen n buffer)
