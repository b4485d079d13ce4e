-- The place of a record in its stream, from the head of what is left.
use mathlib.Core.Path.{◌≡◌, refl, ap, ◌∙◌, sym}
use mathlib.Core.List.{List}
use Prim.Native.Nat.{ℕ, ◌+◌, ◌-◌, ◌<◌, ◌≤◌}
use native.Mathlib.Omega.{arith}
use borrow.Author.Rules.{rules}
use lib.ListN.{length, take, drop, length-drop}
use lib.Seq.{drop-drop}
use Rattle.rules.specs.Lists.{pick}
use Rattle.rules.specs.Reading.{record_in, onto_records}
use Rattle.wire.proofs.Parts.{tail_lent}
use Rattle.stream.specs.Heads.{size_at, head_of, key_at, data_at, record_at}
use Rattle.stream.specs.Spans.{part, IsSpan}
use Rattle.stream.specs.declared.Head.{Head}
use Rattle.std.specs.Prelude.{Some, None}
use Rattle.stream.proofs.Heads.{IsWhole, whole_is, broken_is, decode_more}

module _ (stream : List ℕ) (at : ℕ) (l : at < length stream) where
  head_left : head_of (take (length stream - at) (drop at stream)) ≡ head_of (drop at stream)
  head_left = ap head_of (tail_lent stream at)

  left_long : 0 < length (drop at stream)
  left_long = omega (arith, length-drop at stream)

  module _ (head : Head) (w : Some head ≡ head_of (take (length stream - at) (drop at stream))) where
    whole : IsWhole (drop at stream) head
    whole = whole_is (drop at stream) head (w ∙ head_left)

    pub long_enough : at + 8 + head.key + head.rdata ≤ length stream
    long_enough = unfold size_at in omega (arith, whole.long, whole.key_is, whole.data_is, length-drop at stream)

    key_part : key_at (drop at stream) ≡ part stream (at + 8) (at + 8 + head.key)
    unfolding key_at part
    key_part =
        let q : at + 8 + head.key - (at + 8) ≡ head.key = omega arith in
        rw (q, ← whole.key_is, drop-drop 8 at stream)

    data_part : data_at (drop at stream) ≡ part stream (at + 8 + head.key) (at + 8 + head.key + head.rdata)
    unfolding data_at part
    data_part =
        let q : at + 8 + head.key + head.rdata - (at + 8 + head.key) ≡ head.rdata = omega arith in
        let p : at + (8 + head.key) ≡ at + 8 + head.key = omega arith in
        rw (q, ← whole.key_is, ← whole.data_is, drop-drop (8 + head.key) at stream, p)

    pub spanned : IsSpan stream at (record { start = at + 8; middle = at + 8 + head.key; next = at + 8 + head.key + head.rdata })
    unfolding record_at pick
    spanned =
        let q : at + size_at (drop at stream) ≡ at + 8 + head.key + head.rdata = unfold size_at in omega (arith, whole.key_is, whole.data_is) in
        record {
          says = decode_more (drop at stream) left_long ∙ rw (whole.fit, key_part, data_part, drop-drop (size_at (drop at stream)) at stream, q);
          here = rw (whole.fit, key_part, data_part);
          lengths_first = λ h. refl;
          key_ends = λ h. ap (λ n. at + 8 + n) whole.key_is;
          data_end = λ h. sym q;
          goes_on = omega arith;
          inside = long_enough;
          key_first = omega arith;
          data_behind = omega arith;
        }

  pub unspanned : None ≡ head_of (take (length stream - at) (drop at stream)) → IsSpan stream at (record { start = at; middle = at; next = length stream })
  unfolding part record_in onto_records
  unspanned w =
      let q : at - at ≡ 0 = omega arith in
      record {
        says = decode_more (drop at stream) left_long ∙ rw (broken_is (drop at stream) (w ∙ head_left), q);
        here = broken_is (drop at stream) (w ∙ head_left) ∙ rw q;
        lengths_first = λ h. absurd (omega arith);
        key_ends = λ h. absurd (omega arith);
        data_end = λ h. absurd (omega arith);
        goes_on = l;
        inside = omega arith;
        key_first = omega arith;
        data_behind = omega arith;
      }

pub ruleset span_laws = (rules, long_enough, spanned, unspanned)
