-- The laws of the splitter: what each turn of its loop does to the fields found so far, and what the spans say at the end.
use mathlib.Core.Path.{◌≡◌, refl, ap, ◌∙◌, sym}
use mathlib.Core.Bool.{Bool, true, false}
use mathlib.Core.List.{List, [], ◌∷◌, ◌++◌, map, append-nil}
use Prim.Native.Nat.{ℕ, zero, suc, ◌+◌, ◌-◌, ◌<◌, ◌≤◌}
use native.Mathlib.Omega.{arith}
use borrow.Author.Rules.{rules}
use borrow.Author.Tests.{eq-eqb, ne_eqb, le-leb, lt-leb, leb-true, leb-false}
use lib.Dec.{leb, eqb}
use lib.ListN.{length, get_or, take, drop, set, replicate, length-append, length-map, length-set, length-drop, drop_of_length-le, get_or-map}
use lib.Seq.{drop-drop, drop-set-lt, take-suc, get_or-drop, append_snoc, length-take-le}
use Rattle.std.specs.Prelude.{Some, None}
use Rattle.rules.specs.Lists.{pick, onto_first, split_on}
use Rattle.rules.specs.Kinds.{field_count, field_at}
use Rattle.rules.proofs.Lists.{All, nil, cons, split_short, all_fields}
use Rattle.wire.proofs.Steps.{left_at, take_put}
use Rattle.rules.specs.declared.kinds.Kind.{Kind}
use Rattle.rows.specs.Rows.{IsRow}
use Rattle.rows.specs.declared.rows.Row.{Row}
use Rattle.rows.proofs.Table.{count_most}
use Rattle.splits.specs.declared.splits.Span.{Span}
use Rattle.splits.specs.Few.{if_few}
use Rattle.splits.specs.Splits.{empty_span, span_text, Inside, FieldsOf}

-- ---- general

all_set : {A : Type 0} {P : A → Type 0} {l : List A} (i : ℕ) (a : A) → All P l → P a → All P (set l i a)
all_set i a nil h = nil
all_set zero a (cons k r) h = cons h r
all_set (suc i) a (cons k r) h = cons k (all_set i a r h)

pub all_get_d : {A : Type 0} {P : A → Type 0} {l : List A} (i : ℕ) (d : A) → All P l → P d → P (get_or l i d)
all_get_d i d nil h = h
all_get_d zero d (cons k r) h = k
all_get_d (suc i) d (cons k r) h = all_get_d i d r h

map_set : {A B : Type 0} (f : A → B) (l : List A) (i : ℕ) (a : A) → map f (set l i a) ≡ set (map f l) i (f a)
map_set f [] i a = refl
map_set f (x ∷ l) zero a = refl
map_set f (x ∷ l) (suc i) a = ap (λ (m : List _). f x ∷ m) (map_set f l i a)

-- ---- pieces

-- bytes put in front of the first piece
unfoldable pub glue : List ℕ → List (List ℕ) → List (List ℕ)
glue cur [] = cur ∷ []
glue cur (p ∷ ps) = (cur ++ p) ∷ ps

glue_onto : (cur : List ℕ) (b : ℕ) (ps : List (List ℕ)) → glue cur (onto_first b ps) ≡ glue (cur ++ (b ∷ [])) ps
unfolding glue onto_first
glue_onto cur b [] = refl
glue_onto cur b (p ∷ ps) = ap (λ (q : List ℕ). q ∷ ps) (sym (append_snoc cur b p))

split_some : (b : ℕ) (s : List ℕ) → 1 ≤ length (split_on b s)
unfolding split_on onto_first pick
split_some b [] = omega arith
split_some b (x ∷ s) = by (eqb x b) (split_on b s) (split_some b s)
  where
    by : (t : Bool) (ps : List (List ℕ)) → 1 ≤ length ps → 1 ≤ length (pick t ([] ∷ ps) (onto_first x ps))
    by true ps h = omega arith
    by false [] h = omega arith
    by false (p ∷ ps) h = omega arith

glue_none : (ps : List (List ℕ)) → 1 ≤ length ps → glue [] ps ≡ ps
unfolding glue
glue_none [] h = absurd (omega arith)
glue_none (p ∷ ps) h = refl

-- a piece that ends at a colon is done
glue_colon : (done : List (List ℕ)) (cur : List ℕ) (ps : List (List ℕ)) → 1 ≤ length ps → done ++ glue cur ([] ∷ ps) ≡ (done ++ (cur ∷ [])) ++ glue [] ps
unfolding glue
glue_colon done cur ps h = rw (append-nil cur, glue_none ps h, append_snoc done cur ps)

-- the texts of spans
abbrev texts : List ℕ → List Span → List (List ℕ)
texts s spans = map (span_text s) spans

span_more : (s : List ℕ) (start i : ℕ) → start ≤ i → i < length s → span_text s (record { 0 = start; 1 = i + 1 }) ≡ span_text s (record { 0 = start; 1 = i }) ++ (get_or s i 0 ∷ [])
unfolding span_text
span_more s start i h l =
    let e : i + 1 - start ≡ suc (i - start) = omega arith in
    let m : i - start < length (drop start s) = omega (arith, length-drop start s) in
    let k : start + (i - start) ≡ i = omega arith in
    rw (e, take-suc (drop start s) (i - start) 0 m, get_or-drop start s (i - start) 0, k)

span_none : (s : List ℕ) (i : ℕ) → span_text s (record { 0 = i; 1 = i }) ≡ []
unfolding span_text
span_none s i =
    let e : i - i ≡ 0 = omega arith in
    rw e

blank : (k j : ℕ) → get_or {A = List ℕ} (replicate k []) j [] ≡ []
blank zero j = refl
blank (suc k) zero = refl
blank (suc k) (suc j) = blank k j

-- where only blanks stand behind the first n texts, a text is one of those or blank
blank_behind : (n k : ℕ) (ts : List (List ℕ)) → drop n ts ≡ replicate k [] → (j : ℕ) → get_or (take n ts) j [] ≡ get_or ts j []
blank_behind zero k ts e j = rw e (sym (blank k j))
blank_behind (suc n) k [] e j = refl
blank_behind (suc n) k (t ∷ ts) e zero = refl
blank_behind (suc n) k (t ∷ ts) e (suc j) = blank_behind n k ts e j

-- ---- the loop

-- the fields that are done are the first spans, the one that is being read began at start, and the spans behind are of no bytes
pub record State (s : List ℕ) (spans : List Span) (count start i : ℕ) : Type 0 where
  pub pieces : split_on 58 s ≡ take count (texts s spans) ++ glue (span_text s (record { 0 = start; 1 = i })) (split_on 58 (drop i s))
  pub behind : drop count (texts s spans) ≡ replicate (11 - count) []
  pub inside : All (Inside (length s)) spans

-- shut, so that a search takes it whole
unfoldable pub Going : List ℕ → List Span → ℕ → ℕ → ℕ → Type 0
Going s spans count start i = State s spans count start i

inside_none : (n k : ℕ) → All (Inside n) (replicate k empty_span)
inside_none n zero = nil
inside_none n (suc k) = cons {x = empty_span} (omega arith, omega arith) (inside_none n k)

pub begin : (s : List ℕ) → Going s (replicate 11 empty_span) 0 0 0
unfolding span_text Going
begin s = record { pieces = sym (glue_none (split_on 58 s) (split_some 58 s)); behind = refl; inside = inside_none (length s) 11 }

module _ (s : List ℕ) (spans : List Span) (count start i most : ℕ) (going : Going s spans count start i) (long : length spans ≡ 11) (few : count ≤ most) (top : most ≤ 11) (h : start ≤ i) where
  g : State s spans count start i
  unfolding Going
  g = going

  abbrev span : Span
  span = record { 0 = start; 1 = i }

  texts_long : length (texts s spans) ≡ 11
  texts_long = length-map spans (span_text s) ∙ long

  done_long : length (take count (texts s spans)) ≡ count
  done_long = length-take-le count (texts s spans) (omega (arith, texts_long))

  -- a span stored behind those that are done
  put_behind : count < most → drop (count + 1) (texts s (set spans count span)) ≡ replicate (11 - (count + 1)) []
  put_behind m =
      let e : 11 - count ≡ suc (11 - (count + 1)) = omega arith in
      rw (map_set (span_text s) spans count span, drop-set-lt (count + 1) (texts s spans) count (span_text s span) (omega arith), ← (drop-drop 1 count (texts s spans)), g.behind, e)

  put_done : count < most → take (count + 1) (texts s (set spans count span)) ≡ take count (texts s spans) ++ (span_text s span ∷ [])
  put_done m = rw (map_set (span_text s) spans count span) (take_put (texts s spans) count (span_text s span) (omega (arith, texts_long)))

  pub colon : i < length s → get_or s i 0 ≡ 58 → count < most → Going s (set spans count span) (count + 1) (i + 1) (i + 1)
  unfolding split_on pick Going
  colon l b m = record {
    pieces =
        g.pieces
        ∙ rw (left_at s i l, eq-eqb _ _ b, put_done m, span_none)
        (glue_colon (take count (texts s spans)) (span_text s span) (split_on 58 (drop (i + 1) s)) (split_some 58 (drop (i + 1) s)));
    behind = put_behind m;
    inside = all_set count span g.inside (h, omega arith);
  }

  pub other : i < length s → (get_or s i 0 ≡ 58 → ⊥) → Going s spans count start (i + 1)
  unfolding split_on pick Going
  other l b = record {
    pieces = g.pieces ∙ rw (left_at s i l, ne_eqb _ _ b, glue_onto, span_more s start i h l);
    behind = g.behind;
    inside = g.inside;
  }

  none_of : (n : ℕ) → most ≡ n → most < length (split_on 58 s) → None ≡ if_few n (split_on 58 s)
  unfolding if_few pick
  none_of n e m = rw (← e, lt-leb (length (split_on 58 s)) most m)

  pub full : (n : ℕ) → most ≡ n → i < length s → get_or s i 0 ≡ 58 → most ≤ count → None ≡ if_few n (split_on 58 s)
  unfolding split_on pick glue
  full n k l b m =
      let e : split_on 58 s ≡ take count (texts s spans) ++ ((span_text s span ++ []) ∷ split_on 58 (drop (i + 1) s)) = g.pieces ∙ rw (left_at s i l, eq-eqb _ _ b) in
      none_of n k (omega (arith, ap length e ∙ length-append (take count (texts s spans)) _, done_long, split_some 58 (drop (i + 1) s)))

  -- the last piece is what is being read
  end_pieces : length s ≤ i → split_on 58 s ≡ take count (texts s spans) ++ (span_text s span ∷ [])
  unfolding split_on glue
  end_pieces l = g.pieces ∙ rw (drop_of_length-le s l, append-nil)

  end_long : length s ≤ i → length (split_on 58 s) ≡ count + 1
  end_long l = omega (arith, ap length (end_pieces l) ∙ length-append (take count (texts s spans)) _, done_long)

  pub end_full : (n : ℕ) → most ≡ n → length s ≤ i → most ≤ count → None ≡ if_few n (split_on 58 s)
  end_full n k l m = none_of n k (omega (arith, end_long l))

  pub end_few : (n : ℕ) → most ≡ n → length s ≤ i → count < most → Some (split_on 58 s) ≡ if_few n (split_on 58 s)
  unfolding if_few pick
  end_few n k l m = rw (← k, le-leb (length (split_on 58 s)) most (omega (arith, end_long l)))

  field_at_lem : length s ≤ i → count < most → (j : ℕ) → get_or (texts s (set spans count span)) j [] ≡ field_at (split_on 58 s) j
  unfolding field_at
  field_at_lem l m j = rw (end_pieces l, ← (put_done m)) (sym (blank_behind (count + 1) (11 - (count + 1)) (texts s (set spans count span)) (put_behind m) j))

  pub end_fields : length s ≤ i → i ≤ length s → count < most → FieldsOf s (set spans count (record { 0 = start; 1 = length s }))
  unfolding span_text
  end_fields l k m =
      let q : length s ≡ i = omega arith in
      rw q (record {
        long = length-set spans count span ∙ long;
        inside = all_set count span g.inside (h, k);
        texts = λ j m'. sym (get_or-map (span_text s) (set spans count span) j empty_span) ∙ field_at_lem l m j;
      })

pub few_fields : (kind : Kind) (row : Row) → IsRow kind row → row.count ≤ 11
few_fields kind row e = omega (arith, e.count, count_most kind)

pub counted : (kind : Kind) (row : Row) → IsRow kind row → row.count ≡ field_count kind
counted kind row e = e.count

pub ruleset split_laws = (rules, begin, colon, other, full, end_full, end_few, end_fields, few_fields, counted)

-- what the splitter's answer says
pub few_there : (n : ℕ) (fields : List (List ℕ)) → length fields ≤ n → if_few n fields ≡ Some fields
unfolding if_few pick
few_there n fields h = rw (le-leb (length fields) n h)

pub not_few : (n : ℕ) (fields : List (List ℕ)) → None ≡ if_few n fields → n < length fields
unfolding if_few pick
not_few n fields e = by (leb (length fields) n) refl e
  where
    by : (t : Bool) → leb (length fields) n ≡ t → None ≡ pick t (Some fields) None → n < length fields
    by true a q = absurd (let z : ◌≡◌ {A = ℕ} 0 1 = cc in omega arith)
    by false a q = leb-false (length fields) n a

pub are_few : (n : ℕ) (fields found : List (List ℕ)) → Some found ≡ if_few n fields → (length fields ≤ n) × (fields ≡ found)
unfolding if_few pick
are_few n fields found e = by (leb (length fields) n) refl e
  where
    by : (t : Bool) → leb (length fields) n ≡ t → Some found ≡ pick t (Some fields) None → (length fields ≤ n) × (fields ≡ found)
    by true a q = (leb-true (length fields) n a, cc)
    by false a q = absurd (let z : ◌≡◌ {A = ℕ} 0 1 = cc in omega arith)

-- ---- a field's text

-- a field is no longer than its line
pub field_short : (s : List ℕ) (i n : ℕ) → length s ≤ n → length (field_at (split_on 58 s) i) ≤ n
unfolding field_at
field_short s i n h = all_fields n i (split_short 58 n s h)

module _ (s : List ℕ) (spans : List Span) (i : ℕ) (f : FieldsOf s spans) where
  within : Inside (length s) (get_or spans i empty_span)
  within = all_get_d i empty_span f.inside (omega arith, omega arith)

  pub starts : (get_or spans i empty_span).0 ≤ (get_or spans i empty_span).1
  starts = within.0

  pub ends : (get_or spans i empty_span).1 ≤ length s
  ends = within.1

  pub text : (fields : List (List ℕ)) → split_on 58 s ≡ fields → i < 11
      → take ((get_or spans i empty_span).1 - (get_or spans i empty_span).0) (drop (get_or spans i empty_span).0 s) ≡ field_at fields i
  unfolding span_text
  text fields e h = rw (← e) (f.texts i h)

pub ruleset field_laws = (rules, starts, ends, text)
