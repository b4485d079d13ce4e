-- The laws of one group of an IPv6 address: 1 to 4 hexadecimal digits, either case.
use Rattle.std.proofs.Common.{◌≡◌, refl, ap, ◌∙◌, sym, ℕ, ◌+◌, ◌-◌, ◌<◌, ◌≤◌, List, length, take, Some, None, option_map, Bool, true, false, ◌&&◌, arith, leb, eqb, Fits, w16}
use borrow.Author.Tests.{le-leb, lt-leb, leb-true, eqb-true, eq-eqb, ne_eqb}
use lib.Seq.{take_all}
use lib.Dec.{lit<}
use Rattle.std.proofs.Math.Nat.{pow-le-pow_right}
use Rattle.std.proofs.lemmas.List.{length-take-le}
use Rattle.rules.specs.Lists.{pick, all, lower, split_on, be}
use Rattle.rules.specs.Fields.{digit, lower_hex_digit, hex_value, hex_from, group, group_bytes}
use Rattle.digits.specs.Digits.{hex_of, value_from}
use Rattle.digits.proofs.Digit.{number_says, value_below}
use Rattle.pieces.specs.Pieces.{read_all, read_in}
use Rattle.pieces.proofs.Read.{address_read, none_read, some_read}
use Rattle.groups.specs.Groups.{any_hex_of, group_of, groups_bytes, groups_of}
use Rattle.groups.specs.Laws.{any_hex_below}

-- a letter in upper case is worth what it is in lower case
upper_value : (b : ℕ) → 65 ≤ b → b ≤ 90 → hex_value (b + 32) ≡ b + 32 - 87
unfolding hex_value digit lower pick
upper_value b h k =
    rw (le-leb 48 (b + 32) (omega arith), lt-leb (b + 32) 57 (omega arith), le-leb 65 (b + 32) (omega arith), lt-leb (b + 32) 90 (omega arith)) refl

letter_value : (b : ℕ) → 65 ≤ b → b ≤ 90 → hex_value b ≡ b + 32 - 87
unfolding hex_value digit lower pick
letter_value b h k = rw (le-leb 48 b (omega arith), lt-leb b 57 (omega arith), le-leb 65 b h, le-leb b 90 k) refl

value_by : (b : ℕ) (t u : Bool) → leb 65 b ≡ t → leb b 90 ≡ u → hex_value b ≡ hex_value (pick (t && u) (b + 32) b)
unfolding pick
value_by b true true p q =
    let h = leb-true 65 b p in
    let k = leb-true b 90 q in
    letter_value b h k ∙ sym (upper_value b h k)
value_by b true false p q = refl
value_by b false u p q = refl

same_value : (b : ℕ) → hex_value b ≡ hex_value (lower b)
unfolding lower
same_value b = value_by b (leb 65 b) (leb b 90) refl refl

reads_digit : (b : ℕ) → any_hex_of b ≡ pick (lower_hex_digit (lower b)) (Some (hex_value b)) None
unfolding any_hex_of hex_of
reads_digit b = rw (same_value b) refl

says : (t : List ℕ) → value_from 16 any_hex_of 0 t ≡ pick (all (λ b. lower_hex_digit (lower b)) t) (Some (hex_from 0 t)) None
unfolding hex_from
says t = number_says 16 (λ b. lower_hex_digit (lower b)) hex_value reads_digit hex_from (λ n. refl) (λ n b bs. refl) 0 t

module _ (t : List ℕ) where
  pub empty : length t ≡ 0 → None ≡ group_of t
  unfolding group group_of pick
  empty h = rw (lt-leb 1 (length t) (omega arith)) refl

  pub long : 4 < length t → None ≡ group_of t
  unfolding group group_of pick
  long h = rw (le-leb 1 (length t) (omega arith), lt-leb (length t) 4 h) refl

  pub group_is : (length t ≡ 0 → ⊥) → length t ≤ 4 → value_from 16 any_hex_of 0 t ≡ group_of t
  unfolding group group_of
  group_is h k = says t ∙ rw (le-leb 1 (length t) (omega arith), le-leb (length t) 4 k) refl

  pub group_fits : (v : ℕ) → length t ≤ 4 → value_from 16 any_hex_of 0 t ≡ Some v → Fits w16 v
  group_fits v k e = omega (arith, value_below 16 any_hex_of (omega arith) any_hex_below t v e, pow-le-pow_right {n = 16} (lit< tt) k)

same : (t : List ℕ) → group_bytes t ≡ be 2 (hex_from 0 t)
unfolding group_bytes
same t = refl

reads : (t : List ℕ) → group_of t ≡ pick (group t) (Some (hex_from 0 t)) None
unfolding group_of
reads t = refl

groups_read : (text : List ℕ) → option_map groups_bytes (pick (eqb (length (split_on 95 text)) 8) (read_all group_of (split_on 95 text)) None) ≡ groups_of text
unfolding groups_of groups_bytes
groups_read text = address_read group (hex_from 0) reads group_bytes (be 2) same (eqb (length (split_on 95 text)) 8) (split_on 95 text)

module _ (text : List ℕ) where
  pub refused : None ≡ read_in 8 group_of (split_on 95 text) → None ≡ groups_of text
  refused e =
      ap (option_map groups_bytes) (sym (none_read group_of 8 (split_on 95 text) (eqb (length (split_on 95 text)) 8) (λ q. let l = eqb-true (length (split_on 95 text)) 8 q in omega arith) e))
      ∙ groups_read text

  module _ (groups : List ℕ) (count : ℕ) (n : length groups ≡ 8) (h : count ≤ 8) (e : Some (take count groups) ≡ read_in 8 group_of (split_on 95 text)) where
    pub eight : count ≡ 8 → Some (groups_bytes groups) ≡ groups_of text
    unfolding pick
    eight q =
        let r = some_read group_of 8 (split_on 95 text) (take count groups) e in
        let l : length (split_on 95 text) ≡ 8 = sym r.1 ∙ length-take-le count groups (omega arith) ∙ q in
        let w : take count groups ≡ groups = take_all count groups (omega arith) in
        rw (← (groups_read text), eq-eqb (length (split_on 95 text)) 8 l, r.0, w) refl

    pub other : (count ≡ 8 → ⊥) → None ≡ groups_of text
    unfolding pick
    other q =
        let r = some_read group_of 8 (split_on 95 text) (take count groups) e in
        let l : length (split_on 95 text) ≡ count = sym r.1 ∙ length-take-le count groups (omega arith) in
        rw (← (groups_read text), ne_eqb (length (split_on 95 text)) 8 (λ z. q (sym l ∙ z))) refl
