-- The laws of the bytes of the first i groups.
use Rattle.std.proofs.Common.{◌≡◌, refl, ap, ◌∙◌, sym, ℕ, ◌+◌, ◌*◌, ◌<◌, ◌≤◌, List, [], ◌∷◌, ◌++◌, length, map, get_or, take, append_assoc, append-nil, add-one, arith}
use borrow.Rule.Slice.PartMut.{put_mid}
use Rattle.std.proofs.lemmas.Slice.{take-put_mid}
use Rattle.std.specs.Int.{w16, to_be_bytes}
use lib.Seq.{take_all, take-suc}
use Rattle.rules.specs.Lists.{join_all, be}
use Rattle.groups.specs.Groups.{groups_bytes}

-- the bytes of one group more
snoc : (vs : List ℕ) (v : ℕ) → join_all (map (be 2) (vs ++ (v ∷ []))) ≡ join_all (map (be 2) vs) ++ be 2 v
unfolding join_all
snoc [] v = append-nil (be 2 v)
snoc (x ∷ vs) v = ap (λ (l : List ℕ). be 2 x ++ l) (snoc vs v) ∙ sym (append_assoc (be 2 x) (join_all (map (be 2) vs)) (be 2 v))

pub two_bytes : (g : ℕ) → to_be_bytes w16 g ≡ be 2 g
unfolding be
two_bytes g = refl

pub no_bytes : [] ≡ groups_bytes []
unfolding groups_bytes join_all
no_bytes = refl

pub more_bytes : (groups bytes new : List ℕ) (i k : ℕ) → take (2 * i) bytes ≡ groups_bytes (take i groups) → i < length groups → 2 * i ≤ length bytes → new ≡ be 2 (get_or groups i 0)
    → take (2 * (i + 1)) (put_mid (2 * i) k bytes new) ≡ groups_bytes (take (i + 1) groups)
unfolding groups_bytes be
more_bytes groups bytes new i k e h l q =
    let m : length new ≡ 2 = ap length q in
    take-put_mid (2 * i) k bytes new (2 * (i + 1)) (omega arith) l
    ∙ rw (e, q, add-one i, take-suc groups i 0 h) (sym (snoc (take i groups) (get_or groups i 0)))

pub all_bytes : (groups bytes : List ℕ) (i : ℕ) → take (2 * i) bytes ≡ groups_bytes (take i groups) → length groups ≤ i → length bytes ≤ 2 * i → bytes ≡ groups_bytes groups
all_bytes groups bytes i e h k = sym (take_all (2 * i) bytes k) ∙ e ∙ ap groups_bytes (take_all i groups h)
