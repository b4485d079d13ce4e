-- 02, W3: a record's key compared with a name, which is the asked one or an ancestor of it with its letters lowered.
use Rattle.std.specs.Prelude.{ℕ, suc, ◌<◌, ◌≡◌, Bool, true, false, List, [], ◌∷◌, length, get_or, take, eqb}
use Rattle.rules.specs.declared.comparisons.Compared.{Compared}
use Rattle.rules.specs.Lists.{pick, same_bytes}

-- "all up to and with the first that differs": the byte pairs of two names, from the front
unfoldable pub up_to : List ℕ → List ℕ → ℕ
up_to [] name = 0
up_to (x ∷ key) [] = 0
up_to (x ∷ key) (y ∷ name) = pick (eqb x y) (suc (up_to key name)) 1

-- "how many byte pairs it read, none at another length"
unfoldable pub pairs_read : List ℕ → List ℕ → ℕ
pairs_read key name = pick (eqb (length key) (length name)) (up_to key name) 0

unfoldable pub verdict : Bool → ℕ → Compared
verdict same pairs = record { same = same; pairs = pairs }

unfoldable pub compared : List ℕ → List ℕ → Compared
compared key name = verdict (same_bytes key name) (pairs_read key name)

-- The same in 02's words, by three cases: another length, equal, or the first that differs.
-- Rules out: the place of the difference in place of the count; the whole length at every difference; a pair counted at
-- another length.
pub data Comparison (key name : List ℕ) : Compared → Type 0 where
  other_length : (length key ≡ length name → ⊥) → Comparison key name (verdict false 0)
  equal : key ≡ name → Comparison key name (verdict true (length key))
  first_difference : (k : ℕ) → length key ≡ length name → k < length key
      → take k key ≡ take k name → (get_or key k 0 ≡ get_or name k 0 → ⊥) → Comparison key name (verdict false (suc k))

unfoldable pub ComparingStops : Type 0
ComparingStops = (key name : List ℕ) → Comparison key name (compared key name)

-- The cases leave nothing open: no two results fit a key and a name.
unfoldable pub ComparisonsAgree : Type 0
ComparisonsAgree = (key name : List ℕ) (c d : Compared) → Comparison key name c → Comparison key name d → c ≡ d
