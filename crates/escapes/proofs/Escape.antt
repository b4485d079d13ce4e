-- The laws of a text's front: it is the rules' own reading.
use Rattle.std.proofs.Common.{◌≡◌, refl, ap, ◌∙◌, sym, ℕ, suc, ◌+◌, ◌-◌, ◌*◌, ◌<◌, ◌≤◌, List, [], ◌∷◌, length, get_or, take, drop, Option, Some, None, option_map, Bool, true, false, ◌&&◌, arith, rules, leb, eqb}
use Rattle.std.proofs.lemmas.Option.{none-some}
use Rattle.std.proofs.lemmas.List.{take_rest}
use borrow.Author.Tests.{le-leb, lt-leb, eq-eqb, ne_eqb}
use Rattle.rules.specs.Lists.{pick}
use Rattle.rules.specs.Fields.{octal, onto_text, text_of}
use Rattle.escapes.specs.TextSteps.{escape_of, escaped_front, front_of}

-- what a front and what is behind it read as
unfoldable pub from_front : Option (ℕ × List ℕ) → Option (List ℕ)
from_front None = None
from_front (Some p) = onto_text p.0 (text_of p.1)

pub text_is : (b : ℕ) (t : List ℕ) → text_of (b ∷ t) ≡ from_front (front_of (b ∷ t))
unfolding text_of front_of escaped_front from_front onto_text pick escape_of
text_is b [] = by (eqb b 92)
  where
    by : (u : Bool) → pick u None (Some (b ∷ [])) ≡ from_front (pick u None (Some (b, [])))
    by true = refl
    by false = refl
text_is b (c ∷ []) = by (eqb b 92)
  where
    by : (u : Bool) → pick u None (onto_text b (text_of (c ∷ []))) ≡ from_front (pick u None (Some (b, c ∷ [])))
    by true = refl
    by false = refl
text_is b (c ∷ d ∷ []) = by (eqb b 92)
  where
    by : (u : Bool) → pick u None (onto_text b (text_of (c ∷ d ∷ []))) ≡ from_front (pick u None (Some (b, c ∷ d ∷ [])))
    by true = refl
    by false = refl
text_is b (c ∷ d ∷ e ∷ t) = by (eqb b 92) (leb 48 c && leb c 51 && octal d && octal e)
  where
    x : ℕ
    x = (c - 48) * 64 + (d - 48) * 8 + (e - 48)

    by : (u v : Bool) → pick u (pick v (onto_text x (text_of t)) None) (onto_text b (text_of (c ∷ d ∷ e ∷ t)))
        ≡ from_front (pick u (option_map (λ y. (y, t)) (pick v (Some x) None)) (Some (b, c ∷ d ∷ e ∷ t)))
    by true true = refl
    by true false = refl
    by false v = refl

module _ (c d e : ℕ) where
  pub good : 48 ≤ c → c ≤ 51 → 48 ≤ d → d ≤ 55 → 48 ≤ e → e ≤ 55 → Some ((c - 48) * 64 + (d - 48) * 8 + (e - 48)) ≡ escape_of c d e
  unfolding escape_of octal pick
  good h i j k l m = rw (le-leb 48 c h, le-leb c 51 i, le-leb 48 d j, le-leb d 55 k, le-leb 48 e l, le-leb e 55 m) refl

  pub first_low : c < 48 → None ≡ escape_of c d e
  unfolding escape_of pick
  first_low h = rw (lt-leb 48 c h) refl

  pub first_high : 48 ≤ c → 51 < c → None ≡ escape_of c d e
  unfolding escape_of pick
  first_high g h = rw (le-leb 48 c g, lt-leb c 51 h) refl

  module _ (h : 48 ≤ c) (i : c ≤ 51) where
    pub second_low : d < 48 → None ≡ escape_of c d e
    unfolding escape_of octal pick
    second_low l = rw (le-leb 48 c h, le-leb c 51 i, lt-leb 48 d l) refl

    pub second_high : 48 ≤ d → 55 < d → None ≡ escape_of c d e
    unfolding escape_of octal pick
    second_high k l = rw (le-leb 48 c h, le-leb c 51 i, le-leb 48 d k, lt-leb d 55 l) refl

    module _ (j : 48 ≤ d) (k : d ≤ 55) where
      pub third_low : e < 48 → None ≡ escape_of c d e
      unfolding escape_of octal pick
      third_low l = rw (le-leb 48 c h, le-leb c 51 i, le-leb 48 d j, le-leb d 55 k, lt-leb 48 e l) refl

      pub third_high : 48 ≤ e → 55 < e → None ≡ escape_of c d e
      unfolding escape_of octal pick
      third_high m l = rw (le-leb 48 c h, le-leb c 51 i, le-leb 48 d j, le-leb d 55 k, le-leb 48 e m, lt-leb e 55 l) refl

pub ruleset escape_laws = (good, first_low, first_high, second_low, second_high, third_low, third_high, rules)

-- what is behind a backslash
pub too_short : (t : List ℕ) → length t < 3 → None ≡ escaped_front t
unfolding escaped_front
too_short [] h = refl
too_short (c ∷ []) h = refl
too_short (c ∷ d ∷ []) h = refl
too_short (c ∷ d ∷ e ∷ t) h = absurd (omega arith)

pub no_escape : (t : List ℕ) → 3 ≤ length t → None ≡ escape_of (get_or t 0 0) (get_or t 1 0) (get_or t 2 0) → None ≡ escaped_front t
unfolding escaped_front
no_escape [] h q = absurd (omega arith)
no_escape (c ∷ []) h q = absurd (omega arith)
no_escape (c ∷ d ∷ []) h q = absurd (omega arith)
no_escape (c ∷ d ∷ e ∷ t) h q = rw (← q) refl

pub escaped : (t : List ℕ) (b : ℕ) → 3 ≤ length t → Some b ≡ escape_of (get_or t 0 0) (get_or t 1 0) (get_or t 2 0) → Some (b, take (length t - 3) (drop 3 t)) ≡ escaped_front t
unfolding escaped_front
escaped [] b h q = absurd (omega arith)
escaped (c ∷ []) b h q = absurd (omega arith)
escaped (c ∷ d ∷ []) b h q = absurd (omega arith)
escaped (c ∷ d ∷ e ∷ t) b h q = rw (← q, take_rest (c ∷ d ∷ e ∷ t) 3) refl

-- the front of a text
pub no_front : (t : List ℕ) → length t < 1 → None ≡ front_of t
unfolding front_of
no_front [] h = refl
no_front (b ∷ t) h = absurd (omega arith)

pub backslash : (t : List ℕ) → 1 ≤ length t → get_or t 0 0 ≡ 92 → escaped_front (take (length t - 1) (drop 1 t)) ≡ front_of t
unfolding front_of pick
backslash [] h q = absurd (omega arith)
backslash (b ∷ t) h q = rw (eq-eqb b 92 q, take_rest (b ∷ t) 1) refl

pub plain : (t : List ℕ) → 1 ≤ length t → (get_or t 0 0 ≡ 92 → ⊥) → Some (get_or t 0 0, take (length t - 1) (drop 1 t)) ≡ front_of t
unfolding front_of pick
plain [] h q = absurd (omega arith)
plain (b ∷ t) h q = rw (ne_eqb b 92 q, take_rest (b ∷ t) 1) refl

-- how many bytes are behind a front
behind_size : Option (ℕ × List ℕ) → ℕ
behind_size None = 0
behind_size (Some p) = length p.1

escaped_size : (t : List ℕ) → behind_size (escaped_front t) ≤ length t
unfolding escaped_front behind_size
escaped_size [] = omega arith
escaped_size (c ∷ []) = omega arith
escaped_size (c ∷ d ∷ []) = omega arith
escaped_size (c ∷ d ∷ e ∷ t) = by (escape_of c d e)
  where
    by : (r : Option ℕ) → behind_size (option_map (λ b. (b, t)) r) ≤ suc (suc (suc (length t)))
    by None = omega arith
    by (Some b) = omega arith

front_size : (b : ℕ) (t : List ℕ) → behind_size (front_of (b ∷ t)) ≤ length t
unfolding front_of behind_size pick
front_size b t = by (eqb b 92) (escaped_size t)
  where
    by : (u : Bool) → behind_size (escaped_front t) ≤ length t → behind_size (pick u (escaped_front t) (Some (b, t))) ≤ length t
    by true h = h
    by false h = omega arith

module _ (b : ℕ) (rest : List ℕ) where
  pub front_says : (t : List ℕ) → Some (b, rest) ≡ front_of t → text_of t ≡ onto_text b (text_of rest)
  unfolding front_of from_front
  front_says [] e = absurd (none-some _ (sym e))
  front_says (c ∷ t) e = text_is c t ∙ ap from_front (sym e)

  pub front_shorter : (t : List ℕ) → Some (b, rest) ≡ front_of t → length rest < length t
  unfolding front_of behind_size
  front_shorter [] e = absurd (none-some _ (sym e))
  front_shorter (c ∷ t) e = let q = ap behind_size e in omega (arith, front_size c t, q)

pub front_fault : (t : List ℕ) → (length t ≡ 0 → ⊥) → None ≡ front_of t → text_of t ≡ None
unfolding from_front
front_fault [] h e = absurd (h refl)
front_fault (c ∷ t) h e = text_is c t ∙ ap from_front (sym e)

pub text_end : (t : List ℕ) → length t ≡ 0 → text_of t ≡ Some []
unfolding text_of
text_end [] h = refl
text_end (b ∷ t) h = absurd (omega arith)
