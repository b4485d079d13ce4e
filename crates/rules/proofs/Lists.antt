-- Laws of the functions on lists.
use mathlib.Core.Path.{◌≡◌, refl, sym, ap}
use Prim.Native.Nat.{ℕ, zero, suc, ◌*◌, ◌≤◌}
use native.Mathlib.Omega.{arith}
use mathlib.Core.Bool.{Bool, true, false}
use mathlib.Core.List.{List, [], ◌∷◌, ◌++◌, map, append_assoc}
use Rattle.std.specs.Prelude.{Option, Some, None, slice_get}
use lib.ListN.{length, get_or, length-append}
use lib.Dec.{T, eqb}
use mir.Facts.{yes_and}
use Rattle.rules.specs.Lists.{keep, all, join_all, onto_first, split_on, same_bytes}
use Rattle.rules.proofs.Tests.{and_l, and_r, pick_ok, pick_ap}

-- what is there, if anything is, has P
module _ {κ} {A : Type 0} where
  abbrev pub OnSome : (A → Type κ) → Option A → Type κ
  OnSome P None = Unit {κ}
  OnSome P (Some a) = P a

pub data All {ℓ} {A : Type ℓ} (P : A → Type 0) : List A → Type ℓ where
  nil : All P []
  cons : {x : A} {xs : List A} → P x → All P xs → All P (x ∷ xs)

module _ {ℓ} {A : Type ℓ} {P : A → Type 0} where
  pub all_append : {xs ys : List A} → All P xs → All P ys → All P (xs ++ ys)
  all_append nil b = b
  all_append (cons h a) b = cons h (all_append a b)

  pub all_head : {x : A} {xs : List A} → All P (x ∷ xs) → P x
  all_head (cons h a) = h

  pub all_tail : {x : A} {xs : List A} → All P (x ∷ xs) → All P xs
  all_tail (cons h a) = a

  pub all_keep : (p : A → Bool) {xs : List A} → All P xs → All P (keep p xs)
  unfolding keep
  all_keep p nil = nil
  all_keep p (cons {x = x} h a) = pick_ok (All P) (p x) (λ t. cons h (all_keep p a)) (λ t. all_keep p a)

  pub all_weaken : {Q : A → Type 0} → ((x : A) → P x → Q x) → {xs : List A} → All P xs → All Q xs
  all_weaken f nil = nil
  all_weaken f (cons {x = x} h a) = cons (f x h) (all_weaken f a)

pub all_at : {A : Type 0} {P : A → Type 0} (n : ℕ) {xs : List A} → All P xs → OnSome P (slice_get xs n)
all_at n nil = tt
all_at zero (cons h a) = h
all_at (suc n) (cons h a) = all_at n a

pub all_of {ℓ} : {A : Type ℓ} (p : A → Bool) (xs : List A) → T (all p xs) → All (λ x. T (p x)) xs
unfolding all
all_of p [] t = nil
all_of p (x ∷ xs) t = cons (and_l (p x) (all p xs) t) (all_of p xs (and_r (p x) (all p xs) t))

pub all_true {ℓ} : {A : Type ℓ} (p : A → Bool) {xs : List A} → All (λ x. T (p x)) xs → T (all p xs)
unfolding all
all_true p nil = tt
all_true p (cons {x = x} {xs = xs} h a) = yes_and (p x) (all p xs) h (all_true p a)

pub all_map {ℓ κ} : {A : Type ℓ} {B : Type κ} {P : B → Type 0} (f : A → B) (xs : List A) → ((x : A) → P (f x)) → All P (map f xs)
all_map f [] h = nil
all_map f (x ∷ xs) h = cons (h x) (all_map f xs h)

-- ---- a map that a test does not see

module _ {ℓ} {A B : Type ℓ} (f : A → B) where
  pub keep_map : (p : B → Bool) (q : A → Bool) → ((x : A) → p (f x) ≡ q x) → (xs : List A) → keep p (map f xs) ≡ map f (keep q xs)
  unfolding keep
  keep_map p q h [] = refl
  keep_map p q h (x ∷ xs) = rw (h x, keep_map p q h xs) (sym (pick_ap (map f) (q x) _ _))

-- a test of one list behind another
pub keep_append {ℓ} : {A : Type ℓ} (p : A → Bool) (xs ys : List A) → keep p (xs ++ ys) ≡ keep p xs ++ keep p ys
unfolding keep
keep_append p [] ys = refl
keep_append p (x ∷ xs) ys = rw (keep_append p xs ys) (sym (pick_ap (λ k. k ++ keep p ys) (p x) _ _))

pub join_append {ℓ} : {A : Type ℓ} (xs ys : List (List A)) → join_all (xs ++ ys) ≡ join_all xs ++ join_all ys
unfolding join_all
join_append [] ys = refl
join_append (x ∷ xs) ys = rw (join_append xs ys) (sym (append_assoc x (join_all xs) (join_all ys)))

-- ---- lengths

pub length_join {ℓ κ} : {A : Type ℓ} {B : Type κ} (k : ℕ) (f : A → List B) (xs : List A) → ((x : A) → length (f x) ≤ k) → length (join_all (map f xs)) ≤ length xs * k
unfolding join_all
length_join k f [] h = omega arith
length_join k f (x ∷ xs) h = simp length-append (omega (arith, h x, length_join k f xs h))

pub split_short : (b n : ℕ) (s : List ℕ) → length s ≤ n → All (λ p. length p ≤ n) (split_on b s)
unfolding split_on onto_first
split_short b n [] h = cons h nil
split_short b zero (x ∷ s) h = absurd (omega arith)
split_short b (suc n) (x ∷ s) h =
    let ih : All (λ p. length p ≤ n) (split_on b s) = split_short b n s (omega arith) in
    pick_ok (All (λ p. length p ≤ suc n)) (eqb x b) (λ t. cons (omega arith) (all_weaken (λ p k. omega arith) ih)) (λ t. head (split_on b s) ih)
  where
    head : (ps : List (List ℕ)) → All (λ p. length p ≤ n) ps → All (λ p. length p ≤ suc n) (onto_first x ps)
    head [] nil = cons {x = x ∷ []} (omega arith) nil
    head (p ∷ ps) (cons k a) = cons {x = x ∷ p} (omega arith) (all_weaken (λ q j. omega arith) a)

pub same_length : (xs ys : List ℕ) → T (same_bytes xs ys) → length xs ≡ length ys
unfolding same_bytes
same_length [] [] t = refl
same_length [] (y ∷ ys) t = absurd t
same_length (x ∷ xs) [] t = absurd t
same_length (x ∷ xs) (y ∷ ys) t = ap suc (same_length xs ys (and_r (eqb x y) (same_bytes xs ys) t))

pub other_length_lem : (xs ys : List ℕ) → (length xs ≡ length ys → ⊥) → false ≡ same_bytes xs ys
other_length_lem xs ys h = by (same_bytes xs ys) refl
  where
    by : (b : Bool) → same_bytes xs ys ≡ b → false ≡ b
    by true e = absurd (h (same_length xs ys (rw e tt)))
    by false e = refl

-- every piece is short, and so is a missing one
pub all_fields : (n i : ℕ) {ps : List (List ℕ)} → All (λ p. length p ≤ n) ps → length (get_or ps i []) ≤ n
all_fields n i nil = omega arith
all_fields n zero (cons h a) = h
all_fields n (suc i) (cons h a) = all_fields n i a
