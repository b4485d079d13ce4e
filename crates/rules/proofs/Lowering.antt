-- Lowering the owners of records changes no answer.
use Rattle.std.specs.Prelude.{slice_get}
use mathlib.Core.Path.{◌≡◌, refl}
use Prim.Native.Nat.{ℕ, zero, suc, ◌+◌}
use mathlib.Core.List.{List, [], ◌∷◌, map}
use lib.ListN.{drop}
use Rattle.rules.specs.Lists.{lower}
use Rattle.rules.specs.Records.{Record, location, resource}
use Rattle.rules.specs.Bytes.{unstarred, key_of, rdata_of, fixed_of, data_of, size}
use Rattle.rules.specs.Questions.{Placed, placed_from, Question, Best, better, visible, ordinary_of, wildcard_of, of_type, answers, lifetime_of}
use Rattle.rules.specs.Reading.{type_of, reply_of, response_of, response_from}
use Rattle.rules.proofs.Tests.{pick_ap}
use Rattle.rules.proofs.Unseen.{Unseen, changed, answers_same}
use Rattle.rules.proofs.Decoding.{lower_fixed, lower_lowered, wild_lower, canonical}

lower_twice : (n : List ℕ) → map lower (map lower n) ≡ map lower n
lower_twice [] = refl
lower_twice (x ∷ n) = rw (lower_fixed (lower x) (lower_lowered x), lower_twice n)

drop_lower : (n : List ℕ) → drop 2 (map lower n) ≡ map lower (drop 2 n)
drop_lower [] = refl
drop_lower (x ∷ []) = refl
drop_lower (x ∷ y ∷ n) = refl

same_ordinary : (n : List ℕ) (r : Record) → ordinary_of n (canonical r) ≡ ordinary_of n r
unfolding ordinary_of canonical
same_ordinary n (location p lo) = refl
same_ordinary n (resource o t lo ttl time rd) = rw (wild_lower, lower_twice)

same_wildcard : (n : List ℕ) (r : Record) → wildcard_of n (canonical r) ≡ wildcard_of n r
unfolding wildcard_of canonical
same_wildcard n (location p lo) = refl
same_wildcard n (resource o t lo ttl time rd) = rw (wild_lower, drop_lower, lower_twice)

same_size : (r : Record) → size (canonical r) ≡ size r
unfolding size key_of unstarred data_of fixed_of rdata_of canonical
same_size (location p lo) = refl
same_size (resource o t lo ttl time rd) = rw (size, key_of, unstarred, data_of, fixed_of, wild_lower, drop_lower, ← (pick_ap (map lower)), lower_twice)

same_best : (c : List ℕ) (b : Best) (r : Record) → better c b (canonical r) ≡ better c b r
unfolding better canonical
same_best c b (location p lo) = refl
same_best c b (resource o t lo ttl time rd) = refl

same_visible : (l : List ℕ) (m : ℕ) (r : Record) → visible l m (canonical r) ≡ visible l m r
unfolding visible canonical
same_visible l m (location p lo) = refl
same_visible l m (resource o t lo ttl time rd) = refl

same_type : (n : ℕ) (r : Record) → of_type n (canonical r) ≡ of_type n r
unfolding of_type canonical
same_type n (location p lo) = refl
same_type n (resource o t lo ttl time rd) = refl

-- ---- over placed records

lower_placed : Placed → Placed
lower_placed p = record { rec = canonical p.rec; end = p.end }

placed_lower : (n : ℕ) (rs : List Record) → placed_from n (map canonical rs) ≡ map lower_placed (placed_from n rs)
unfolding placed_from lower_placed
placed_lower n [] = refl
placed_lower n (r ∷ rs) = rw (same_size r, placed_lower (n + size r) rs)

lower_unseen : Unseen lower_placed
unfolding lower_placed
lower_unseen = record {
  ordinary = λ n p. same_ordinary n p.rec;
  wildcard = λ n p. same_wildcard n p.rec;
  seen = λ here m p. same_visible here m p.rec;
  typed = λ n p. same_type n p.rec;
  located = λ c b p. same_best c b p.rec;
}

same_lifetime : (m : ℕ) (r : Record) → lifetime_of m (canonical r) ≡ lifetime_of m r
unfolding lifetime_of canonical
same_lifetime m (location p lo) = refl
same_lifetime m (resource o t lo (suc ttl) time rd) = refl
same_lifetime m (resource o t lo zero zero rd) = refl
same_lifetime m (resource o t lo zero (suc time) rd) = refl

same_type_of : (r : Record) → type_of (canonical r) ≡ type_of r
unfolding type_of canonical
same_type_of (location p lo) = refl
same_type_of (resource o t lo ttl time rd) = refl

same_rdata : (r : Record) → rdata_of (canonical r) ≡ rdata_of r
unfolding rdata_of canonical
same_rdata (location p lo) = refl
same_rdata (resource o t lo ttl time rd) = refl

reply_lower : (m : ℕ) (ps : List Placed) (n : ℕ) → reply_of m (slice_get (map lower_placed ps) n) ≡ reply_of m (slice_get ps n)
unfolding lower_placed reply_of
reply_lower m [] n = refl
reply_lower m (p ∷ ps) zero = rw (same_type_of, same_lifetime, same_rdata)
reply_lower m (p ∷ ps) (suc n) = reply_lower m ps n

pub from_lower : (q : Question) (n : ℕ) (rs : List Record) → response_from (map canonical rs) q n ≡ response_from rs q n
unfolding response_from response_of changed
from_lower q n rs = rw (placed_lower, answers_same lower_placed lower_unseen, reply_lower q.moment (answers q (placed_from 0 rs)).list n)
