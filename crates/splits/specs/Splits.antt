-- The fields of a line as an array of pairs.
use Rattle.std.specs.Prelude.{◌≡◌, List, ℕ, ◌-◌, ◌≤◌, ◌<◌, [], ◌∷◌, length, take, drop, get_or}
use Rattle.std.specs.Coded.{×_prop, le_prop}
use Rattle.rules.specs.Lists.{split_on}
use Rattle.rules.specs.Kinds.{field_at}
use Rattle.rules.proofs.Lists.{All, nil, cons}
use Rattle.splits.specs.declared.splits.Span.{Span}

abbrev pub empty_span : Span
empty_span = record { 0 = 0; 1 = 0 }

-- the bytes of a span
unfoldable pub span_text : List ℕ → Span → List ℕ
span_text s p = take (p.1 - p.0) (drop p.0 s)

abbrev pub Inside : ℕ → Span → Type 0
Inside n p = (p.0 ≤ p.1) × (p.1 ≤ n)

-- the spans of the fields of a line, each within it; where a field is missing, of no bytes
pub record FieldsOf (s : List ℕ) (spans : List Span) : Type 0 where
  pub long : length spans ≡ 11
  pub inside : All (Inside (length s)) spans
  pub texts : (i : ℕ) → i < 11 → span_text s (get_or spans i empty_span) ≡ field_at (split_on 58 s) i

all_prop : {A : Type 0} {P : A → Type 0} → ((a : A) → IsProp (P a)) → (l : List A) → IsProp (All P l)
all_prop h [] nil nil = λ i. nil
all_prop h (x ∷ xs) (cons a r) (cons b t) = λ i. cons (h x a b i) (all_prop h xs r t i)

-- that spans lie within a line has one proof at most, so a type may keep it
pub inside_prop : (n : ℕ) (spans : List Span) → IsProp (All (Inside n) spans)
inside_prop n = all_prop (λ p. ×_prop le_prop le_prop)
