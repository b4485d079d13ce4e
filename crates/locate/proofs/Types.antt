-- The type of a record is what its data begin with.
use mathlib.Core.Path.{◌≡◌, refl}
use mathlib.Core.List.{List, [], ◌∷◌}
use Prim.Native.Nat.{ℕ, zero, suc, ◌+◌, ◌*◌}
use native.Mathlib.Omega.{arith}
use Rattle.std.specs.Prelude.{Some}
use lib.Dec.{eqb}
use lib.ListN.{get_or, take}
use Rattle.rules.specs.Lists.{from_be}
use Rattle.rules.specs.Records.{Record, location, resource}
use Rattle.rules.specs.Reading.{ordinary_key, wildcard_key, is_lo, behind_lo, with_lo, by_flag, resource_in, location_in, record_in}
use Rattle.rules.proofs.Tests.{pick_ok}
use Rattle.rules.proofs.Lists.{OnSome}

abbrev Typed : ℕ → Record → Type 0
Typed n (location prefix lo) = Unit {0}
Typed n (resource owner type lo ttl time rdata) = type ≡ n

behind_typed : (owner : List ℕ) (type : ℕ) (lo rest : List ℕ) → OnSome (Typed type) (behind_lo owner type lo rest)
unfolding behind_lo
behind_typed owner type lo rest = pick_ok (OnSome (Typed type)) _ (λ t. refl) (λ t. tt)

lo_typed : (owner : List ℕ) (type : ℕ) (rest : List ℕ) → OnSome (Typed type) (with_lo owner type rest)
unfolding with_lo
lo_typed owner type rest = pick_ok (OnSome (Typed type)) (is_lo (take 2 rest)) (λ t. behind_typed owner type (take 2 rest) _) (λ t. tt)

flag_typed : (key : List ℕ) (type flag : ℕ) (rest : List ℕ) → OnSome (Typed type) (by_flag key type flag rest)
unfolding by_flag
flag_typed key type flag rest =
    pick_ok (OnSome (Typed type)) (eqb flag 61) (λ t. pick_ok (OnSome (Typed type)) (ordinary_key key) (λ g. behind_typed key type [] rest) (λ g. tt))
    (λ t. pick_ok (OnSome (Typed type)) (eqb flag 62) (λ t. pick_ok (OnSome (Typed type)) (ordinary_key key) (λ g. lo_typed key type rest) (λ g. tt))
    (λ t. pick_ok (OnSome (Typed type)) (eqb flag 42) (λ t. pick_ok (OnSome (Typed type)) (wildcard_key key) (λ g. behind_typed (1 ∷ 42 ∷ key) type [] rest) (λ g. tt))
    (λ t. pick_ok (OnSome (Typed type)) (eqb flag 43) (λ t. pick_ok (OnSome (Typed type)) (wildcard_key key) (λ g. lo_typed (1 ∷ 42 ∷ key) type rest) (λ g. tt))
    (λ t. tt))))

abbrev pub type_at : List ℕ → ℕ
type_at rdata = get_or rdata 0 0 * 256 + get_or rdata 1 0

resource_typed : (key rdata : List ℕ) → OnSome (Typed (type_at rdata)) (resource_in key rdata)
unfolding resource_in from_be
resource_typed key [] = tt
resource_typed key (t ∷ []) = tt
resource_typed key (t ∷ u ∷ []) = tt
resource_typed key (t ∷ u ∷ flag ∷ rest) =
    let q : (0 * 256 + t) * 256 + u ≡ t * 256 + u = omega arith in
    rw q (flag_typed key (t * 256 + u) flag rest)

record_typed : (key rdata : List ℕ) → OnSome (Typed (type_at rdata)) (record_in key rdata)
unfolding record_in location_in
record_typed [] rdata = tt
record_typed (zero ∷ []) rdata = resource_typed (zero ∷ []) rdata
record_typed (zero ∷ mark ∷ prefix) rdata = pick_ok (OnSome (Typed (type_at rdata))) _ (λ t. tt) (λ t. tt)
record_typed (suc b ∷ key) rdata = resource_typed (suc b ∷ key) rdata

pub type_is : (key rdata owner lo rd : List ℕ) (type ttl time : ℕ) → record_in key rdata ≡ Some (resource owner type lo ttl time rd) → type ≡ type_at rdata
type_is key rdata owner lo rd type ttl time e = rw e at (record_typed key rdata)
