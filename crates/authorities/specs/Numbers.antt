-- The numbers of an authority line.
use Rattle.std.specs.Prelude.{List, ℕ}
use Rattle.rules.specs.Records.{long_at}
use Rattle.soa.specs.declared.soa.SoaNumbers.{SoaNumbers}

-- the five numbers of fields 3 to 7, the first with a default of the caller's
abbrev pub numbers_of : ℕ → List (List ℕ) → SoaNumbers
numbers_of serial fields =
    record { serial = long_at serial fields 3; refresh = long_at 16384 fields 4; retry = long_at 2048 fields 5; expire = long_at 1048576 fields 6; minimum = long_at 2560 fields 7 }
