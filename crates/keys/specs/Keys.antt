-- The keys that records with an owner have.
use Rattle.std.specs.Prelude.{ℕ, Bool, not, ◌&&◌, List, length, leb}
use Rattle.rules.specs.Lists.{pick}
use Rattle.rules.specs.Names.{is_wire}
use Rattle.rules.specs.Bytes.{wild}
use Rattle.rules.specs.Reading.{lowered, ordinary_key, wildcard_key}

unfoldable pub good_key : Bool → List ℕ → Bool
good_key wild key = pick wild (wildcard_key key) (ordinary_key key)

-- what a wildcard's key and another's have in common, and what each has besides
unfoldable pub low_name : List ℕ → Bool
low_name key = is_wire key && lowered key

unfoldable pub fits_owner : Bool → List ℕ → Bool
fits_owner w key = pick w (leb (length key) 253) (not (wild key))
