-- The head of a record, and a stream as its first record and the rest.
use mathlib.Core.Path.{◌≡◌, refl, ap, ◌∙◌, sym}
use mathlib.Core.Bool.{Bool, true, false, ◌&&◌}
use mathlib.Core.List.{List, [], ◌∷◌}
use Rattle.std.specs.Prelude.{Option, Some, None}
use Prim.Native.Nat.{ℕ, zero, suc, ◌+◌, ◌-◌, ◌<◌, ◌≤◌}
use native.Mathlib.Omega.{arith}
use borrow.Author.Rules.{rules}
use borrow.Author.Tests.{le-leb, lt-leb, leb-true, leb-false}
use lib.Dec.{leb}
use lib.ListN.{length, take, drop, length-drop}
use lib.Seq.{drop-drop}
use Rattle.rules.specs.Lists.{pick, from_le}
use Rattle.rules.specs.Records.{Record}
use Rattle.rules.specs.Reading.{record_in, onto_records, decode_one, decode_from, decode}
use Rattle.wire.proofs.Fuel.{enough}
use Rattle.stream.specs.Heads.{key_length, data_length, size_at, fits, head_of, key_at, data_at, record_at}
use Rattle.stream.specs.declared.Head.{Head}

both_right : (a b : Bool) → (a && b) ≡ true → b ≡ true
both_right true b e = e
both_right false b e = let z : ◌≡◌ {A = ℕ} 0 1 = cc in absurd (omega arith)

leb_is : (a b : ℕ) (t : Bool) → (t ≡ true → a ≤ b) → (t ≡ false → b < a) → t ≡ leb a b
leb_is a b true f g = sym (le-leb a b (f refl))
leb_is a b false f g = sym (lt-leb a b (g refl))

-- ---- the head, as the code finds it

module _ (bytes : List ℕ) where
  pub no_lengths : length bytes < 8 → None ≡ head_of bytes
  unfolding head_of fits pick
  no_lengths h = rw (lt-leb 8 (length bytes) h)

  pub fitting : 8 ≤ length bytes → size_at bytes ≤ length bytes → fits bytes ≡ true
  unfolding fits
  fitting l h = rw (le-leb 8 (length bytes) l, le-leb (size_at bytes) (length bytes) h)

  not_fitting : 8 ≤ length bytes → length bytes < size_at bytes → fits bytes ≡ false
  unfolding fits
  not_fitting l h = rw (le-leb 8 (length bytes) l, lt-leb (size_at bytes) (length bytes) h)

  pub fitted : fits bytes ≡ true → size_at bytes ≤ length bytes
  unfolding fits
  fitted q = leb-true (size_at bytes) (length bytes) (both_right (leb 8 (length bytes)) (leb (size_at bytes) (length bytes)) q)

  pub malformed : length bytes < 8 → record_at bytes ≡ None
  unfolding record_at fits pick
  malformed h = rw (lt-leb 8 (length bytes) h)

  module _ (k : ℕ) (ek : k ≡ from_le (take 4 bytes)) (l : 8 ≤ length bytes) where
    pub key_beyond : length bytes - 8 < k → None ≡ head_of bytes
    unfolding head_of pick
    key_beyond h = rw (not_fitting l (unfold size_at key_length data_length in omega arith))

    module _ (d : ℕ) (ed : d ≡ from_le (take 4 (drop 4 bytes))) (h : k ≤ length bytes - 8) where
      pub data_beyond : length bytes - 8 - k < d → None ≡ head_of bytes
      unfolding head_of pick
      data_beyond g = rw (not_fitting l (unfold size_at key_length data_length in omega arith))

      pub is_whole : d ≤ length bytes - 8 - k → Some (record { key = k; rdata = d }) ≡ head_of bytes
      unfolding head_of pick key_length data_length
      is_whole g = rw (fitting l (unfold size_at key_length data_length in omega arith), ek, ed)

pub ruleset head_laws = (rules, no_lengths, key_beyond, data_beyond, is_whole)

pub record IsWhole (bytes : List ℕ) (h : Head) : Type 0 where
  pub key_is : h.key ≡ key_length bytes
  pub data_is : h.rdata ≡ data_length bytes
  pub long : size_at bytes ≤ length bytes
  pub fit : fits bytes ≡ true

pub whole_is : (bytes : List ℕ) (h : Head) → Some h ≡ head_of bytes → IsWhole bytes h
unfolding head_of pick
whole_is bytes h e = go (fits bytes) refl e
  where
    go : (t : Bool) → fits bytes ≡ t → Some h ≡ pick t (Some (record { key = key_length bytes; rdata = data_length bytes })) None → IsWhole bytes h
    go true q e =
        let w : h ≡ record { key = key_length bytes; rdata = data_length bytes } = cc in
        record { key_is = ap (λ (h : Head). h.key) w; data_is = ap (λ (h : Head). h.rdata) w; long = fitted bytes q; fit = q }
    go false q e = let z : ◌≡◌ {A = ℕ} 0 1 = cc in absurd (omega arith)

pub broken_is : (bytes : List ℕ) → None ≡ head_of bytes → record_at bytes ≡ None
unfolding head_of record_at pick
broken_is bytes e = go (fits bytes) refl e
  where
    go : (t : Bool) → fits bytes ≡ t → ◌≡◌ {A = Option Head} None (pick t (Some (record { key = key_length bytes; rdata = data_length bytes })) None)
        → pick t (record_in (key_at bytes) (data_at bytes)) None ≡ None
    go true q e = let z : ◌≡◌ {A = ℕ} 0 1 = cc in absurd (omega arith)
    go false q e = refl

-- ---- a stream is its first record and the rest

module _ (bytes : List ℕ) (more : List ℕ → Option (List Record)) where
  when : (t : Bool) → pick t (onto_records (record_in (key_at bytes) (data_at bytes)) (more (drop (size_at bytes) bytes))) None
      ≡ onto_records (pick t (record_in (key_at bytes) (data_at bytes)) None) (more (drop (size_at bytes) bytes))
  unfolding onto_records pick
  when true = refl
  when false = refl

  same_test : 8 ≤ length bytes → leb (key_length bytes + data_length bytes) (length (drop 8 bytes)) ≡ leb (size_at bytes) (length bytes)
  unfolding size_at
  same_test h =
      let l : length (drop 8 bytes) ≡ length bytes - 8 = length-drop 8 bytes in
      leb_is (8 + key_length bytes + data_length bytes) (length bytes) (leb (key_length bytes + data_length bytes) (length (drop 8 bytes)))
      (λ t. omega (arith, leb-true (key_length bytes + data_length bytes) (length (drop 8 bytes)) t))
      (λ t. omega (arith, leb-false (key_length bytes + data_length bytes) (length (drop 8 bytes)) t))

  one_long : 8 ≤ length bytes → decode_one (key_length bytes) (data_length bytes) (drop 8 bytes) more ≡ onto_records (record_at bytes) (more (drop (size_at bytes) bytes))
  unfolding decode_one record_at fits
  one_long h =
      rw (same_test h, le-leb 8 (length bytes) h, drop-drop (key_length bytes) 8 bytes, drop-drop (data_length bytes) (8 + key_length bytes) bytes)
      (unfold size_at key_at data_at in when (leb (size_at bytes) (length bytes)))

  one : pick (leb 8 (length bytes)) (decode_one (key_length bytes) (data_length bytes) (drop 8 bytes) more) None ≡ onto_records (record_at bytes) (more (drop (size_at bytes) bytes))
  unfolding pick
  one = go (leb 8 (length bytes)) refl
    where
      go : (t : Bool) → leb 8 (length bytes) ≡ t → pick t (decode_one (key_length bytes) (data_length bytes) (drop 8 bytes) more) None ≡ onto_records (record_at bytes) (more (drop (size_at bytes) bytes))
      go true q = one_long (leb-true 8 (length bytes) q)
      go false q = rw (malformed bytes (leb-false 8 (length bytes) q)) (unfold onto_records in refl)

front : (count b : ℕ) (bs : List ℕ) → decode_from (suc count) (b ∷ bs) ≡ onto_records (record_at (b ∷ bs)) (decode_from count (drop (size_at (b ∷ bs)) (b ∷ bs)))
unfolding decode_from
front count b bs = unfold key_length data_length in one (b ∷ bs) (decode_from count)

shorter : (b : ℕ) (bs : List ℕ) → length (drop (size_at (b ∷ bs)) (b ∷ bs)) ≤ length bs
unfolding size_at
shorter b bs = omega (arith, length-drop (8 + key_length (b ∷ bs) + data_length (b ∷ bs)) (b ∷ bs))

none_left : (count : ℕ) → decode_from count [] ≡ Some []
unfolding decode_from
none_left zero = refl
none_left (suc count) = refl

pub decode_nil : decode [] ≡ Some []
unfolding decode decode_from
decode_nil = refl

pub decode_more : (bytes : List ℕ) → 0 < length bytes → decode bytes ≡ onto_records (record_at bytes) (decode (drop (size_at bytes) bytes))
unfolding decode
decode_more [] h = absurd (omega arith)
decode_more (b ∷ bs) h =
    let rest = drop (size_at (b ∷ bs)) (b ∷ bs) in
    front (length bs) b bs
    ∙ ap (onto_records (record_at (b ∷ bs)))
    (enough decode_from (λ xs. onto_records (record_at xs)) (λ xs. drop (size_at xs) xs) (Some []) none_left front shorter (length bs) (length rest) rest (shorter b bs) (omega arith))
