-- Records that stand one behind another are read one after another.
use mathlib.Core.Path.{◌≡◌, refl, ap, ◌∙◌, sym}
use mathlib.Core.Bool.{Bool, true, false}
use mathlib.Core.List.{List, [], ◌∷◌, ◌++◌}
use Rattle.std.specs.Prelude.{Option, Some, None}
use Prim.Native.Nat.{ℕ, ◌+◌, ◌-◌, ◌<◌, ◌≤◌}
use native.Mathlib.Omega.{arith}
use lib.ListN.{length, take, drop, length-append, length-take, length-drop, take-append-drop, drop_of_length-le}
use lib.Seq.{length-take-le, take-append-le, drop-append-le, take-take, take-add, drop_at, slice_empty}
use Rattle.rules.specs.Lists.{pick}
use Rattle.rules.specs.Records.{Record}
use Rattle.rules.specs.Reading.{record_in, onto_records, decode}
use Rattle.stream.specs.Heads.{key_length, data_length, size_at, fits, key_at, data_at, record_at}
use Rattle.stream.specs.Spans.{part, IsSpan}
use Rattle.stream.specs.declared.Span.{Span}
use Rattle.stream.proofs.Heads.{fitting, fitted, decode_nil, decode_more}

-- ---- a whole record at the front is read as it is, whatever is behind it

module _ (xs ys : List ℕ) (h : 8 ≤ length xs) where
  same_key : key_length (xs ++ ys) ≡ key_length xs
  unfolding key_length
  same_key = rw (take-append-le 4 xs ys (omega arith))

  same_data : data_length (xs ++ ys) ≡ data_length xs
  unfolding data_length
  same_data = rw (drop-append-le 4 xs ys (omega arith), take-append-le 4 (drop 4 xs) ys (omega (arith, length-drop 4 xs)))

  same_size : size_at (xs ++ ys) ≡ size_at xs
  unfolding size_at
  same_size = rw (same_key, same_data)

  module _ (l : size_at xs ≤ length xs) where
    long : 8 + key_length xs + data_length xs ≤ length xs
    long = unfold size_at in l

    same_fit : fits (xs ++ ys) ≡ fits xs
    same_fit = fitting (xs ++ ys) (omega (arith, length-append xs ys)) (rw same_size (omega (arith, length-append xs ys))) ∙ sym (fitting xs h l)

    same_record : record_at (xs ++ ys) ≡ record_at xs
    unfolding record_at key_at data_at
    same_record =
        rw (
          same_fit,
          same_key,
          same_data,
          drop-append-le 8 xs ys h,
          take-append-le (key_length xs) (drop 8 xs) ys (omega (arith, long, length-drop 8 xs)),
          drop-append-le (8 + key_length xs) xs ys (omega (arith, long)),
          take-append-le (data_length xs) (drop (8 + key_length xs) xs) ys (omega (arith, long, length-drop (8 + key_length xs) xs)),
        )

record_fits : (xs : List ℕ) (r : Record) → record_at xs ≡ Some r → size_at xs ≤ length xs
unfolding record_at pick
record_fits xs r e = go (fits xs) refl e
  where
    go : (t : Bool) → fits xs ≡ t → pick t (record_in (key_at xs) (data_at xs)) None ≡ Some r → size_at xs ≤ length xs
    go true q e = fitted xs q
    go false q e = let z : ◌≡◌ {A = ℕ} 0 1 = cc in absurd (omega arith)

pub key_there : (key rdata : List ℕ) (r : Record) → record_in key rdata ≡ Some r → 0 < length key
unfolding record_in
key_there [] rdata r e = let z : ◌≡◌ {A = ℕ} 0 1 = cc in absurd (omega arith)
key_there (b ∷ key) rdata r e = omega arith

eight_first : (xs : List ℕ) → 8 ≤ size_at xs
unfolding size_at
eight_first xs = omega arith

-- ---- the first of several records

onto_first_lem : (o : Option Record) (ds : Option (List Record)) (r : Record) (rs : List Record) → onto_records o ds ≡ Some (r ∷ rs) → (o ≡ Some r) × (ds ≡ Some rs)
unfolding onto_records
onto_first_lem None ds r rs e = let z : ◌≡◌ {A = ℕ} 0 1 = cc in absurd (omega arith)
onto_first_lem (Some q) None r rs e = let z : ◌≡◌ {A = ℕ} 0 1 = cc in absurd (omega arith)
onto_first_lem (Some q) (Some qs) r rs e = (cc, cc)

first_of : (xs : List ℕ) (r : Record) (rs : List Record) → decode xs ≡ Some (r ∷ rs) → (record_at xs ≡ Some r) × (decode (drop (size_at xs) xs) ≡ Some rs)
first_of [] r rs e = let y : Some [] ≡ Some (r ∷ rs) = sym decode_nil ∙ e in let z : ◌≡◌ {A = ℕ} 0 1 = cc in absurd (omega arith)
first_of (b ∷ bs) r rs e = onto_first_lem _ _ r rs (sym (decode_more (b ∷ bs) (omega arith)) ∙ e)

onto_not_nil : (o : Option Record) (ds : Option (List Record)) → onto_records o ds ≡ Some [] → ⊥
unfolding onto_records
onto_not_nil None ds e = let z : ◌≡◌ {A = ℕ} 0 1 = cc in omega arith
onto_not_nil (Some q) None e = let z : ◌≡◌ {A = ℕ} 0 1 = cc in omega arith
onto_not_nil (Some q) (Some qs) e = let z : ◌≡◌ {A = ℕ} 0 1 = cc in omega arith

no_bytes : (xs : List ℕ) → decode xs ≡ Some [] → xs ≡ []
no_bytes [] e = refl
no_bytes (b ∷ bs) e = absurd (onto_not_nil _ _ (sym (decode_more (b ∷ bs) (omega arith)) ∙ e))

-- ---- records behind records

decode_append : (rs ss : List Record) (xs ys : List ℕ) → decode xs ≡ Some rs → decode ys ≡ Some ss → decode (xs ++ ys) ≡ Some (rs ++ ss)
decode_append [] ss xs ys e f = rw (no_bytes xs e) f
decode_append (r ∷ rs) ss xs ys e f =
    let i = first_of xs r rs e in
    let l : size_at xs ≤ length xs = record_fits xs r i.0 in
    let h : 8 ≤ length xs = omega (arith, eight_first xs) in
    let n : 0 < length (xs ++ ys) = omega (arith, length-append xs ys) in
    let more : decode (drop (size_at xs) xs ++ ys) ≡ Some (rs ++ ss) = decode_append rs ss (drop (size_at xs) xs) ys i.1 f in
    decode_more (xs ++ ys) n ∙ rw (same_record xs ys h l, same_size xs ys h, drop-append-le (size_at xs) xs ys l, i.0, more) (unfold onto_records in refl)

one_record : (xs : List ℕ) (r : Record) → record_at xs ≡ Some r → decode (take (size_at xs) xs) ≡ Some (r ∷ [])
one_record xs r e =
    let l : size_at xs ≤ length xs = record_fits xs r e in
    let n : length (take (size_at xs) xs) ≡ size_at xs = length-take-le (size_at xs) xs l in
    let h : 8 ≤ length (take (size_at xs) xs) = omega (arith, eight_first xs) in
    let s : size_at xs ≡ size_at (take (size_at xs) xs) = rw take-append-drop at (same_size (take (size_at xs) xs) (drop (size_at xs) xs) h) in
    let k : record_at xs ≡ record_at (take (size_at xs) xs) = rw take-append-drop at (same_record (take (size_at xs) xs) (drop (size_at xs) xs) h (omega arith)) in
    let z : drop (size_at (take (size_at xs) xs)) (take (size_at xs) xs) ≡ [] = drop_of_length-le (take (size_at xs) xs) {i = size_at (take (size_at xs) xs)} (omega arith) in
    decode_more (take (size_at xs) xs) (omega arith) ∙ rw (z, ← k, e, decode_nil) (unfold onto_records in refl)

-- ---- the parts of a stream from one place to another

module _ (stream : List ℕ) (at : ℕ) where
  pub no_part : decode (drop at (take at stream)) ≡ Some []
  no_part = rw (slice_empty at stream) decode_nil

  -- two parts that meet
  pub parts_join : (b c : ℕ) (rs ss : List Record) → at ≤ b → b ≤ c → c ≤ length stream → decode (drop at (take b stream)) ≡ Some rs → decode (drop b (take c stream)) ≡ Some ss
      → decode (drop at (take c stream)) ≡ Some (rs ++ ss)
  parts_join b c rs ss h k l e f =
      let n : length (take b stream) ≡ b = length-take-le b stream (omega arith) in
      let q : take c stream ≡ take b stream ++ drop b (take c stream) = sym (rw (take-take b c stream k) at (take-append-drop b (take c stream))) in
      let p : drop at (take c stream) ≡ drop at (take b stream) ++ drop b (take c stream) = ap (drop at) q ∙ drop-append-le at (take b stream) (drop b (take c stream)) (omega arith) in
      rw p (decode_append rs ss _ _ e f)

  -- the part of one record
  module _ (span : Span) (i : IsSpan stream at span) (r : Record) (e : record_in (part stream span.start span.middle) (part stream span.middle span.next) ≡ Some r) where
    key_long : span.start < span.middle
    key_long = unfold part in omega (arith, key_there _ _ r e, length-take (span.middle - span.start) (drop span.start stream))

    pub record_part : decode (drop at (take span.next stream)) ≡ Some (r ∷ [])
    record_part =
        let n : length (take at stream) ≡ at = length-take-le at stream (omega (arith, i.goes_on, i.inside)) in
        rw (i.data_end key_long, take-add at (size_at (drop at stream)) stream, drop_at (take at stream) (take (size_at (drop at stream)) (drop at stream)) at n)
        (one_record (drop at stream) r (i.here ∙ e))
