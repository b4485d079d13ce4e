-- What holds of the value of every field, and of a field without a fault.
use mathlib.Core.Path.{◌≡◌}
use Prim.Native.Nat.{ℕ, ◌*◌, ◌≤◌, ◌<◌}
use native.Mathlib.Omega.{arith}
use mathlib.Core.Bool.{Bool, not}
use mathlib.Core.List.{List, [], ◌∷◌}
use Rattle.std.specs.Prelude.{Option, Some, None}
use lib.ListN.{length}
use lib.Dec.{T}
use Rattle.rules.specs.declared.faults.Fault.{Fault}
use Rattle.rules.specs.declared.faults.FieldKind.{FieldKind}
use Rattle.rules.specs.declared.kinds.Meaning.{Meaning}
use Rattle.rules.specs.declared.quantities.Lo.{Lo}
use Rattle.rules.specs.Lists.{value_or, split_on, has}
use Rattle.rules.specs.Names.{NameRead, named, misnamed, name_of, wire_in, wire_of}
use Rattle.rules.specs.Fields.{number_of, hex_from, group_bytes, octet_byte, address_if, address_of, prefix_of, time_of, lo_of, onto_text, text_of, unless, name_fault, needed, fault_of}
use Rattle.rules.specs.Records.{number_or, address_in, lo_bytes}
use Rattle.rules.specs.Answers.{is_done}
use Rattle.rules.specs.Reading.{is_lo}
use Rattle.rules.proofs.Tests.{or_r, pick_ok, tests, passes}
use Rattle.rules.proofs.Lists.{OnSome, length_join}
use Rattle.rules.proofs.Numbers.{length_be}
use Rattle.rules.proofs.Names.{Wire, OnName, name_ok, label_ok}

value_ok : {A : Type 0} (P : A → Type 0) (x : A) (o : Option A) → P x → OnSome P o → P (value_or x o)
unfolding value_or
value_ok P x None h k = h
value_ok P x (Some y) h k = k

-- ---- numbers

pub number_most : (d most : ℕ) (t : List ℕ) → d ≤ most → number_or d most t ≤ most
unfolding number_or number_of
number_most d most t h = value_ok (λ n. n ≤ most) d _ h (pick_ok (OnSome (λ n. n ≤ most)) _ (λ k. search tests) (λ k. tt))

pub time_most : (t : List ℕ) → value_or 0 (time_of t) < 9223372036854775808
unfolding time_of
time_most t = value_ok (λ n. n < 9223372036854775808) 0 _ (omega arith) (pick_ok (OnSome (λ n. n < 9223372036854775808)) _ (λ k. search tests) (λ k. tt))

-- ---- addresses and prefixes

-- at most n pieces of at most k bytes
address_if_lem : (n k : ℕ) (wanted : Bool) (good : List ℕ → Bool) (bytes : List ℕ → List ℕ) (pieces : List (List ℕ))
    → (T wanted → length pieces * k ≤ n) → ((p : List ℕ) → length (bytes p) ≤ k) → OnSome (λ b. length b ≤ n) (address_if wanted good bytes pieces)
unfolding address_if
address_if_lem n k wanted good bytes pieces few short =
    pick_ok (OnSome (λ b. length b ≤ n)) _ (λ t. let w : T wanted = search tests in omega (arith, few w, length_join k bytes pieces short)) (λ t. tt)

pub address_short : (t : List ℕ) → length (address_in t) ≤ 16
unfolding address_in address_of group_bytes octet_byte
address_short t =
    value_ok (λ b. length b ≤ 16) [] _ (omega arith)
    (pick_ok (OnSome (λ b. length b ≤ 16)) _
    (λ k. address_if_lem 16 2 _ _ _ _ (λ w. let e : length (split_on 95 t) ≡ 8 = search tests in omega arith) (λ p. omega (arith, length_be 2 (hex_from 0 p))))
    (λ k. address_if_lem 16 1 _ _ _ _ (λ w. let e : length (split_on 46 t) ≡ 4 = search tests in omega arith) (λ p. omega arith)))

pub prefix_short : (t : List ℕ) → length (value_or [] (prefix_of t)) ≤ 4
unfolding prefix_of octet_byte
prefix_short [] = value_ok (λ b. length b ≤ 4) [] _ (omega arith) (omega arith)
prefix_short (b ∷ t) =
    value_ok (λ b. length b ≤ 4) [] _ (omega arith)
    (address_if_lem 4 1 _ _ _ _ (λ w. let e : length (split_on 46 (b ∷ t)) ≤ 4 = search tests in omega arith) (λ p. omega arith))

-- ---- lo

-- no lo, or one in range
abbrev pub LoOrNone : List ℕ → Type 0
LoOrNone [] = Unit {0}
LoOrNone (a ∷ l) = T (is_lo (a ∷ l))

lo_read_lem : (t : List ℕ) → OnSome (λ lo. T (is_lo (lo_bytes lo))) (lo_of t)
unfolding lo_of lo_bytes is_lo
lo_read_lem [] = tt
lo_read_lem (a ∷ []) = pick_ok (OnSome (λ lo. T (is_lo (lo_bytes lo)))) _ (λ k. search passes) (λ k. tt)
lo_read_lem (a ∷ b ∷ []) = pick_ok (OnSome (λ lo. T (is_lo (lo_bytes lo)))) _ (λ k. search (passes, or_r, tests)) (λ k. tt)
lo_read_lem (a ∷ b ∷ c ∷ t) = tt

pub lo_of_lem : (l : List ℕ) → T (is_lo l) → LoOrNone l
lo_of_lem [] t = tt
lo_of_lem (a ∷ l) t = t

on_some : {A : Type 0} {P Q : A → Type 0} → ((a : A) → P a → Q a) → (o : Option A) → OnSome P o → OnSome Q o
on_some f None h = tt
on_some f (Some a) h = f a h

pub lo_ok : (t : List ℕ) → LoOrNone (lo_bytes (value_or Lo.Every (lo_of t)))
unfolding lo_bytes
lo_ok t = value_ok (λ lo. LoOrNone (lo_bytes lo)) Lo.Every (lo_of t) tt (on_some (λ lo h. lo_of_lem (lo_bytes lo) h) (lo_of t) (lo_read_lem t))

-- ---- text

onto_short : (m n b : ℕ) (o : Option (List ℕ)) → m < n → OnSome (λ t. length t ≤ m) o → OnSome (λ t. length t ≤ n) (onto_text b o)
unfolding onto_text
onto_short m n b None k h = tt
onto_short m n b (Some t) k h = omega (arith, h)

text_read : (t : List ℕ) → OnSome (λ b. length b ≤ length t) (text_of t)
unfolding text_of
text_read [] = omega arith
text_read (b ∷ []) = pick_ok (OnSome (λ t. length t ≤ 1)) _ (λ k. tt) (λ k. omega arith)
text_read (b ∷ c ∷ []) = pick_ok (OnSome (λ t. length t ≤ 2)) _ (λ k. tt) (λ k. onto_short 1 2 b _ (omega arith) (text_read (c ∷ [])))
text_read (b ∷ c ∷ d ∷ []) = pick_ok (OnSome (λ t. length t ≤ 3)) _ (λ k. tt) (λ k. onto_short 2 3 b _ (omega arith) (text_read (c ∷ d ∷ [])))
text_read (b ∷ c ∷ d ∷ e ∷ t) =
    pick_ok (OnSome (λ s. length s ≤ length (b ∷ c ∷ d ∷ e ∷ t))) _
    (λ k. pick_ok (OnSome (λ s. length s ≤ length (b ∷ c ∷ d ∷ e ∷ t))) _ (λ j. onto_short (length t) _ _ _ (omega arith) (text_read t)) (λ j. tt))
    (λ k. onto_short (length (c ∷ d ∷ e ∷ t)) _ b _ (omega arith) (text_read (c ∷ d ∷ e ∷ t)))

pub text_short : (t : List ℕ) → length (value_or [] (text_of t)) ≤ length t
text_short t = value_ok (λ b. length b ≤ length t) [] _ (omega arith) (text_read t)

-- ---- fields without a fault

name_in : (P : List ℕ → Type 0) (r : NameRead) → T (is_done (name_fault r)) → OnName P r → P (wire_in r)
unfolding name_fault is_done wire_in
name_in P (named wire) t h = h
name_in P (misnamed fault place) t h = absurd t

needed_done : (k : FieldKind) (t : List ℕ) (f : Fault) → T (is_done (needed k t f)) → T (is_done f)
unfolding needed is_done
needed_done k [] f d = absurd d
needed_done k (b ∷ t) f d = d

unless_done : {A : Type 0} (P : A → Type 0) (x : A) (k : FieldKind) (o : Option A) → T (is_done (unless k o)) → OnSome P o → P (value_or x o)
unfolding unless is_done value_or
unless_done P x FieldKind.Name None t h = absurd t
unless_done P x FieldKind.Address None t h = absurd t
unless_done P x FieldKind.Number None t h = absurd t
unless_done P x FieldKind.Time None t h = absurd t
unless_done P x FieldKind.Lo None t h = absurd t
unless_done P x FieldKind.Escape None t h = absurd t
unless_done P x k (Some y) t h = h

module _ (t : List ℕ) where
  pub owner_wire : T (is_done (fault_of Meaning.Owner t)) → Wire (wire_of t)
  unfolding fault_of wire_of
  owner_wire d = name_in Wire (name_of t) d (name_ok t)

  pub target_wire : T (is_done (fault_of Meaning.Target t)) → Wire (wire_of t)
  unfolding fault_of wire_of
  target_wire d = name_in Wire (name_of t) (needed_done _ t _ d) (name_ok t)

  pub host_wire : T (is_done (fault_of Meaning.HostPart t)) → Wire (wire_of t)
  unfolding fault_of wire_of
  host_wire d = name_in Wire (name_of t) d (name_ok t)

  pub host_label : T (is_done (fault_of Meaning.HostPart t)) → T (not (has 46 t)) → length t ≤ 63
  unfolding fault_of
  host_label d n = name_in (λ w. length t ≤ 63) (name_of t) d (label_ok t n)

  pub location_lo : T (is_done (fault_of Meaning.LocationLo t)) → T (is_lo (lo_bytes (value_or Lo.Every (lo_of t))))
  unfolding fault_of
  location_lo d = unless_done (λ lo. T (is_lo (lo_bytes lo))) Lo.Every FieldKind.Lo (lo_of t) (needed_done _ t _ d) (lo_read_lem t)
