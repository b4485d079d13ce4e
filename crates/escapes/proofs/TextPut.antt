-- The laws of a text put into a buffer: how a turn of the loop puts one byte, and that the text's bytes stand there at its end.
use Rattle.std.proofs.Common.{◌≡◌, refl, ap, ◌∙◌, sym, ℕ, ◌+◌, ◌<◌, ◌≤◌, List, [], ◌∷◌, ◌++◌, length, take, drop, set, Option, Some, None, true, true≢false, append-nil, length-append, length-set, arith}
use Rattle.std.proofs.lemmas.Option.{none-some}
use lib.Seq.{append_snoc, length-take-le}
use Rattle.rules.specs.Lists.{value_or, is_some}
use Rattle.rules.specs.Fields.{onto_text, text_of}
use Rattle.buffer.specs.Put.{IsPut}
use Rattle.buffer.proofs.Front.{put_by, stays}
use Rattle.wire.proofs.Steps.{take_put}
use Rattle.escapes.specs.TextSteps.{front_of}
use Rattle.escapes.proofs.Escape.{front_says, front_fault, text_end}

-- a text with these bytes in front
abbrev pub behind : List ℕ → Option (List ℕ) → Option (List ℕ)
behind x None = None
behind x (Some t) = Some (x ++ t)

-- the text's first bytes stand at the buffer's front, and what is left is behind them
pub record TextPut (s d out left : List ℕ) (used : ℕ) : Type 0 where
  pub going : text_of s ≡ behind (take used out) (text_of left)
  pub rest : drop used out ≡ drop used d
  pub room : used ≤ length d
  pub long : length out ≡ length d

pub begin : (s d : List ℕ) → TextPut s d d s 0
begin s d = record { going = whole (text_of s); rest = refl; room = omega arith; long = refl }
  where
    whole : (t : Option (List ℕ)) → t ≡ behind [] t
    whole None = refl
    whole (Some t) = refl

-- one byte moves from what is left to the front
moved : (x : List ℕ) (b : ℕ) (t : Option (List ℕ)) → behind x (onto_text b t) ≡ behind (x ++ (b ∷ [])) t
unfolding onto_text
moved x b None = refl
moved x b (Some t) = ap Some (sym (append_snoc x b t))

no_none : {A : Type 0} (t : Option (List ℕ)) → is_some t ≡ true → t ≡ None → A
unfolding is_some
no_none None n e = absurd (true≢false (sym n))
no_none (Some t) n e = absurd (none-some _ (sym e))

longer : (x : List ℕ) (b : ℕ) (t : Option (List ℕ)) → is_some (behind x (onto_text b t)) ≡ true → length x < length (value_or [] (behind x (onto_text b t)))
unfolding onto_text is_some value_or
longer x b None n = absurd (true≢false (sym n))
longer x b (Some t) n = simp length-append (omega arith)

module _ {s d out left : List ℕ} {used : ℕ} (e : TextPut s d out left used) (n : is_some (text_of s) ≡ true) where
  module _ (m : length (value_or [] (text_of s)) ≤ length d) (b : ℕ) (rest : List ℕ) (p : Some (b, rest) ≡ front_of left) where
    at : text_of s ≡ behind (take used out) (onto_text b (text_of rest))
    at = e.going ∙ rw (front_says b rest left p) refl

    pub has_room : used < length d
    has_room =
        let f : length (take used out) ≡ used = length-take-le used out (omega (arith, e.room, e.long)) in
        let g = longer (take used out) b (text_of rest) (ap is_some (sym at) ∙ n) in
        let y = ap (λ (t : Option (List ℕ)). length (value_or [] t)) at in
        omega arith

    pub put : TextPut s d (set out used b) rest (used + 1)
    put =
        let r = has_room in
        record {
          going = at ∙ rw (take_put out used b (omega (arith, e.long))) (moved (take used out) b (text_of rest));
          rest = stays out d used used b e.rest (omega (arith, e.long));
          room = omega arith;
          long = length-set out used b ∙ e.long;
        }

  empty : None ≡ front_of left → length left ≡ 0
  empty p = by left refl
    where
      by : (t : List ℕ) → left ≡ t → length left ≡ 0
      by [] q = ap length q
      by (c ∷ t) q = no_none (text_of s) n (e.going ∙ rw (front_fault left (λ z. absurd (let y = ap length q in omega arith)) p) refl)

  pub end : None ≡ front_of left → IsPut (value_or [] (text_of s)) d out used
  unfolding value_or
  end p =
      let q : text_of s ≡ Some (take used out ++ []) = e.going ∙ rw (text_end left (empty p)) refl in
      put_by (value_or [] (text_of s)) d out used e.long e.room (rw (q, append-nil) refl) e.rest
