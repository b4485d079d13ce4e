-- Decoding the bytes of sound records gives the records back, their owners lowered.
use mathlib.Core.Path.{◌≡◌, refl, sym, ap, ap₂, ◌∙◌, subst}
use Prim.Native.Nat.{ℕ, zero, suc, ◌+◌, ◌≤◌, ◌<◌}
use native.Mathlib.Omega.{arith}
use mathlib.Core.Bool.{Bool, true, false, not, ◌&&◌}
use mathlib.Core.List.{List, [], ◌∷◌, ◌++◌, map, append_assoc}
use Rattle.std.specs.Prelude.{Option, Some, None}
use lib.ListN.{length, drop, length-append, length-map, length-drop}
use lib.Seq.{take-append_seam, drop-append_seam}
use lib.Dec.{T, leb, ltb, eqb, le→leb}
use mir.Facts.{yes_and, yes_leb}
use lib.Arith.{lt→nleb}
use borrow.Author.Tests.{ne_eqb}
use Rattle.rules.specs.Lists.{pick, join_all, le, be, from_be, lower, begins_with}
use Rattle.rules.specs.Names.{longest_name, labels, is_wire}
use Rattle.rules.specs.Fields.{largest_ttl}
use Rattle.rules.specs.Records.{Record, location, resource}
use Rattle.rules.specs.Bytes.{wild, unstarred, key_of, flag_and_lo, rdata_of, fixed_of, data_of, encode, size, bytes_of}
use Rattle.rules.specs.Reading.{lowered, is_lo, moment_end, behind_lo, ordinary_key, wildcard_key, with_lo, by_flag, resource_in, location_in, record_in, onto_records, decode_one, decode_from, decode}
use Rattle.rules.proofs.Tests.{pick_ok, pick_yes, pick_no, tests, passes, and_r}
use Rattle.rules.proofs.Lists.{All, nil, cons, all_true, all_map}
use Rattle.rules.proofs.Numbers.{length_le, length_be, from_le_lem, from_be_lem}
use Rattle.rules.proofs.Names.{Wire}
use Rattle.rules.proofs.Fields.{LoOrNone, lo_of_lem}
use Rattle.rules.proofs.Records.{Ok, ok_location, ok_resource}

-- ---- lowered bytes

pub lower_fixed : (b : ℕ) → T (not (leb 65 b && leb b 90)) → lower b ≡ b
unfolding lower
lower_fixed b t = pick_no _ _ _ t

not_and : (a b : Bool) → T (not b) → T (not (a && b))
not_and true b t = t
not_and false b t = tt

not_and_l : (a b : Bool) → T (not a) → T (not (a && b))
not_and_l true b t = absurd t
not_and_l false b t = tt

pub lower_lowered : (b : ℕ) → T (not (leb 65 (lower b) && leb (lower b) 90))
unfolding lower
lower_lowered b =
    pick_ok (λ n. T (not (leb 65 n && leb n 90))) _
    (λ t. let h : 65 ≤ b = search tests in not_and (leb 65 (b + 32)) (leb (b + 32) 90) (lt→nleb (b + 32) 90 (omega arith))) (λ t. t)

-- a byte below the letters is a byte below the letters
pub lower_low : (c b : ℕ) → c < 65 → eqb c (lower b) ≡ eqb c b
unfolding lower
lower_low c b k =
    pick_ok (λ n. eqb c n ≡ eqb c b) _
    (λ t. let h : 65 ≤ b = search tests in ne_eqb c (b + 32) (λ e. omega arith) ∙ sym (ne_eqb c b (λ e. omega arith))) (λ t. refl)

pub wild_lower : (o : List ℕ) → wild (map lower o) ≡ wild o
unfolding wild begins_with
wild_lower [] = refl
wild_lower (x ∷ []) = rw (lower_low 1 x (omega arith))
wild_lower (x ∷ y ∷ o) = rw (lower_low 1 x (omega arith), lower_low 42 y (omega arith))

lowered_lower : (n : List ℕ) → T (lowered (map lower n))
unfolding lowered
lowered_lower n = all_true _ (all_map lower n lower_lowered)

pub labels_lower : (k : ℕ) (n : List ℕ) → T (labels k n) → T (labels k (map lower n))
unfolding labels
labels_lower zero [] t = t
labels_lower zero (zero ∷ []) t = unfold lower pick in tt
labels_lower zero (zero ∷ x ∷ n) t = absurd t
labels_lower zero (suc k ∷ n) t =
    let h : suc k ≤ 63 = search tests in
    rw (lower_fixed (suc k) (not_and_l (leb 65 (suc k)) (leb (suc k) 90) (lt→nleb 65 (suc k) (omega arith))))
    (yes_and (leb (suc k) 63) _ (yes_leb h) (labels_lower (suc k) n (search tests)))
labels_lower (suc k) [] t = t
labels_lower (suc k) (x ∷ n) t = labels_lower k n t

-- ---- one record

unfoldable pub canonical : Record → Record
canonical (location p lo) = location p lo
canonical (resource owner type lo ttl time rd) = resource (map lower owner) type lo ttl time rd

module _ (type : ℕ) (ttl time : ℕ) (rd : List ℕ) (typed : type < 65536) (lived : ttl ≤ 2147483647) (timed : time < 9223372036854775808) where
  fixed_back : (owner lo : List ℕ) → behind_lo owner type lo (be 4 ttl ++ be 8 time ++ rd) ≡ Some (resource owner type lo ttl time rd)
  unfolding behind_lo be largest_ttl moment_end
  fixed_back owner lo =
      let rest : List ℕ = be 4 ttl ++ be 8 time ++ rd in
      let long : 12 ≤ length rest = omega arith in
      ap₂ (λ (a b : ℕ). pick (leb 12 (length rest) && leb a 2147483647 && ltb b 9223372036854775808) (Some (resource owner type lo a b rd)) None)
      (from_be_lem 4 {n = ttl} (omega arith)) (from_be_lem 8 {n = time} (omega arith))
      ∙ pick_yes _ _ _ (search passes)

  fixed_when : (b : Bool) (owner lo : List ℕ) → T b → pick b (behind_lo owner (from_be 0 (be 2 type)) lo (be 4 ttl ++ be 8 time ++ rd)) None ≡ Some (resource owner type lo ttl time rd)
  fixed_when b owner lo t = pick_yes b _ _ t ∙ ap (λ (n : ℕ). behind_lo owner n lo (be 4 ttl ++ be 8 time ++ rd)) (from_be_lem 2 (omega arith)) ∙ fixed_back owner lo

  -- an ordinary owner's data, and a wildcard's
  plain_back : (k lo : List ℕ) → T (ordinary_key k) → LoOrNone lo → resource_in k (be 2 type ++ flag_and_lo false lo ++ be 4 ttl ++ be 8 time ++ rd) ≡ Some (resource k type lo ttl time rd)
  unfolding resource_in by_flag be flag_and_lo is_lo with_lo pick
  plain_back k [] o l = fixed_when (ordinary_key k) k [] o
  plain_back k (a ∷ []) o l = absurd l
  plain_back k (a ∷ b ∷ []) o l = pick_yes (ordinary_key k) _ _ o ∙ fixed_when (is_lo (a ∷ b ∷ [])) k (a ∷ b ∷ []) l
  plain_back k (a ∷ b ∷ c ∷ r) o l = absurd l

  wild_back : (k lo : List ℕ) → T (wildcard_key k) → LoOrNone lo → resource_in k (be 2 type ++ flag_and_lo true lo ++ be 4 ttl ++ be 8 time ++ rd) ≡ Some (resource (1 ∷ 42 ∷ k) type lo ttl time rd)
  unfolding resource_in by_flag be flag_and_lo is_lo with_lo pick
  wild_back k [] o l = fixed_when (wildcard_key k) (1 ∷ 42 ∷ k) [] o
  wild_back k (a ∷ []) o l = absurd l
  wild_back k (a ∷ b ∷ []) o l = pick_yes (wildcard_key k) _ _ o ∙ fixed_when (is_lo (a ∷ b ∷ [])) (1 ∷ 42 ∷ k) (a ∷ b ∷ []) l
  wild_back k (a ∷ b ∷ c ∷ r) o l = absurd l

-- a key that is a name is no location's
by_name : (k d : List ℕ) → T (labels 0 k) → record_in k d ≡ resource_in k d
unfolding record_in labels
by_name [] d t = absurd t
by_name (zero ∷ []) d t = refl
by_name (zero ∷ x ∷ k) d t = absurd t
by_name (suc x ∷ k) d t = refl

wild_split : (o : List ℕ) → T (wild o) → o ≡ 1 ∷ 42 ∷ drop 2 o
unfolding wild begins_with
wild_split [] t = absurd t
wild_split (x ∷ []) t = absurd (and_r (eqb 1 x) false t)
wild_split (x ∷ y ∷ o) t =
    let a : 1 ≡ x = search tests in
    let b : 42 ≡ y = search tests in
    cc

pub wire_lower : (n : List ℕ) → Wire n → Wire (map lower n)
unfolding is_wire longest_name
wire_lower n t =
    let s : length n ≤ 255 = search tests in
    let s' : length (map lower n) ≤ 255 = rw length-map s in
    let l : T (labels 0 (map lower n)) = labels_lower 0 n (search tests) in
    search passes

plain_key : (o : List ℕ) → Wire o → wild o ≡ false → T (ordinary_key (map lower o))
unfolding ordinary_key
plain_key o t e =
    let w : Wire (map lower o) = wire_lower o t in
    let l : T (lowered (map lower o)) = lowered_lower o in
    let n : T (not (wild (map lower o))) = rw (wild_lower o, e) tt in
    search passes

wild_key : (k : List ℕ) → Wire (1 ∷ 42 ∷ k) → T (wildcard_key (map lower k))
unfolding wildcard_key is_wire longest_name labels
wild_key k t =
    let s : length (1 ∷ 42 ∷ k) ≤ 255 = search tests in
    let l : T (labels 0 k) = search tests in
    let w : Wire (map lower k) = wire_lower k (yes_and (leb (length k) 255) (labels 0 k) (le→leb (length k) 255 (omega arith)) l) in
    let l : T (lowered (map lower k)) = lowered_lower k in
    let n : length (map lower k) ≤ 253 = rw length-map (omega arith) in
    search passes

pub record_back : (r : Record) → Ok r → record_in (key_of r) (data_of r) ≡ Some (canonical r)
unfolding key_of unstarred data_of fixed_of rdata_of canonical record_in location_in
record_back (location p lo) (ok_location s g) = pick_yes _ _ _ (yes_and (leb (length p) 4) (is_lo lo) (yes_leb s) g)
record_back (resource owner type lo ttl time rd) (ok_resource s) = back (wild owner) refl
  where
    back : (w : Bool) → wild owner ≡ w → record_in (map lower (pick (wild owner) (drop 2 owner) owner)) (be 2 type ++ flag_and_lo (wild owner) lo ++ be 4 ttl ++ be 8 time ++ rd) ≡ Some (resource (map lower owner) type lo ttl time rd)
    back false e = unfold pick in
        let o : T (ordinary_key (map lower owner)) = plain_key owner s.owned e in
        rw e (by_name (map lower owner) _ (unfold ordinary_key is_wire longest_name in search tests)
        ∙ plain_back type ttl time rd s.typed s.lived s.timed (map lower owner) lo o s.coded)
    back true e = unfold pick lower in
        let k : List ℕ = map lower (drop 2 owner) in
        let is : owner ≡ 1 ∷ 42 ∷ drop 2 owner = wild_split owner (rw e tt) in
        let o : T (wildcard_key k) = wild_key (drop 2 owner) (subst Wire is s.owned) in
        rw e (by_name k _ (unfold wildcard_key is_wire longest_name in search tests)
        ∙ wild_back type ttl time rd s.typed s.lived s.timed k lo o s.coded
        ∙ ap (λ (n : List ℕ). Some (resource (map lower n) type lo ttl time rd)) (sym is))

-- ---- all records

pub key_short : (r : Record) → Ok r → length (key_of r) ≤ 255
unfolding key_of unstarred
key_short (location p lo) (ok_location s g) = omega arith
key_short (resource owner type lo ttl time rd) (ok_resource s) =
    rw length-map (pick_ok (λ (l : List ℕ). length l ≤ 255) _ (λ t. omega (arith, short, length-drop 2 owner)) (λ t. short))
  where
    short : length owner ≤ 255
    short = unfold is_wire longest_name in let w : Wire owner = s.owned in search tests

lo_short : (lo : List ℕ) → LoOrNone lo → length lo ≤ 2
unfolding is_lo
lo_short [] h = omega arith
lo_short (a ∷ []) h = omega arith
lo_short (a ∷ b ∷ []) h = omega arith
lo_short (a ∷ b ∷ c ∷ r) h = absurd h

pub flag_length : (w : Bool) (lo : List ℕ) → length (flag_and_lo w lo) ≡ suc (length lo)
unfolding flag_and_lo
flag_length false [] = refl
flag_length false (a ∷ lo) = refl
flag_length true [] = refl
flag_length true (a ∷ lo) = refl

pub data_short : (r : Record) → Ok r → length (data_of r) ≤ 5000
unfolding data_of fixed_of rdata_of
data_short (location p lo) (ok_location s g) = omega (arith, lo_short lo (lo_of_lem lo g))
data_short (resource owner type lo ttl time rd) (ok_resource s) = simp (length-append, length_be, flag_length) (omega (arith, lo_short lo s.coded, s.sized))

one_back : (key d rest : List ℕ) (go : List ℕ → Option (List Record)) → decode_one (length key) (length d) (key ++ d ++ rest) go ≡ onto_records (record_in key d) (go rest)
unfolding decode_one
one_back key d rest go =
    let long : length key + length d ≤ length (key ++ (d ++ rest)) = simp length-append (omega arith) in
    rw append_assoc (pick_yes _ _ _ (search passes) ∙ simp (take-append_seam, drop-append_seam))

decode_one_lem : (r : Record) (f : ℕ) (rest : List ℕ) → Ok r → decode_from (suc f) (encode r ++ rest) ≡ onto_records (record_in (key_of r) (data_of r)) (decode_from f rest)
unfolding encode decode_from le
decode_one_lem r f rest ok =
    pick_yes _ _ _ (le→leb 8 (length (encode r ++ rest)) (omega arith))
    ∙ ap₂ (λ (k d : ℕ). decode_one k d (key_of r ++ data_of r ++ rest) (decode_from f)) (from_le_lem 4 {n = length (key_of r)} (omega (arith, key_short r ok))) (from_le_lem 4 {n = length (data_of r)} (omega (arith, data_short r ok)))
    ∙ one_back (key_of r) (data_of r) rest (decode_from f)

decode_all : (f : ℕ) {rs : List Record} → All Ok rs → length rs ≤ f → decode_from f (bytes_of rs) ≡ Some (map canonical rs)
unfolding bytes_of join_all onto_records decode_from
decode_all zero nil h = refl
decode_all (suc f) nil h = refl
decode_all zero (cons k a) h = absurd (omega arith)
decode_all (suc f) (cons {x = r} {xs = rs} k a) h = decode_one_lem r f (bytes_of rs) k ∙ ap₂ onto_records (record_back r k) (decode_all f a (omega arith))

pub size_is : (r : Record) → length (encode r) ≡ size r
unfolding encode size
size_is r = simp (length-append, length_le) (omega arith)

fuel : (rs : List Record) → length rs ≤ length (bytes_of rs)
unfolding bytes_of join_all size
fuel [] = omega arith
fuel (r ∷ rs) = simp length-append (omega (arith, size_is r, fuel rs))

pub decode_back : {rs : List Record} → All Ok rs → decode (bytes_of rs) ≡ Some (map canonical rs)
unfolding decode
decode_back {rs} a = decode_all _ a (fuel rs)
