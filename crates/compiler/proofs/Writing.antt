-- The laws of writing every line.
use mathlib.Core.Path.{◌≡◌, refl, ap, ◌∙◌, sym}
use mathlib.Core.Bool.{Bool, true, false, ◌&&◌}
use mathlib.Core.List.{List, [], ◌∷◌, ◌++◌, map, append_assoc}
use Prim.Native.Nat.{ℕ, ◌+◌, ◌≤◌}
use native.Mathlib.Omega.{arith}
use borrow.Author.Rules.{rules}
use lib.ListN.{length, take, length-append, length-drop}
use Rattle.rules.specs.Lists.{all, join_all}
use Rattle.rules.specs.Kinds.{lines_of}
use Rattle.rules.specs.Records.{Record}
use Rattle.rules.specs.Bytes.{encode, bytes_of}
use Rattle.rules.specs.Answers.{is_good, line_records, source_records}
use Rattle.buffer.specs.Put.{IsPut}
use Rattle.wire.proofs.Parts.{lent_at, back_at, tail_lent}
use Rattle.buffer.proofs.Puts.{Run, run_none, run_front, run_more, run_whole, put_length, within}

-- the bytes of lines, line after line
unfoldable pub bytes_from : ℕ → List (List ℕ) → List ℕ
bytes_from serial ls = bytes_of (join_all (map (line_records serial) ls))

bytes_append : (a b : List Record) → bytes_of (a ++ b) ≡ bytes_of a ++ bytes_of b
unfolding bytes_of join_all
bytes_append [] b = refl
bytes_append (r ∷ a) b = ap (λ (l : List ℕ). encode r ++ l) (bytes_append a b) ∙ sym (append_assoc (encode r) (bytes_of a) (bytes_of b))

bytes_more : (serial : ℕ) (l : List ℕ) (ls : List (List ℕ)) → bytes_from serial (l ∷ ls) ≡ bytes_of (line_records serial l) ++ bytes_from serial ls
unfolding bytes_from join_all
bytes_more serial l ls = bytes_append (line_records serial l) (join_all (map (line_records serial) ls))

good_both : (a b : Bool) → (a && b) ≡ true → (a ≡ true) × (b ≡ true)
good_both true b e = (refl, e)
good_both false b e = absurd (let z : ◌≡◌ {A = ℕ} 0 1 = cc in omega arith)

-- what is written, and the bytes of the lines that are left, are the bytes of all; the lines left are good, and have room
pub record Writing (serial : ℕ) (s d out : List ℕ) (used : ℕ) (left : List (List ℕ)) : Type 0 where
  pub goods : all is_good left ≡ true
  pub run : Run d out used
  pub whole : take used out ++ bytes_from serial left ≡ bytes_of (source_records serial s)
  pub room : used + length (bytes_from serial left) ≤ length d

pub begin_writing : (serial : ℕ) (s d : List ℕ) (left : List (List ℕ)) → left ≡ lines_of s → all is_good (lines_of s) ≡ true → length (bytes_of (source_records serial s)) ≤ length d
    → Writing serial s d d 0 left
unfolding bytes_from source_records
begin_writing serial s d left e g h = record { goods = rw e g; run = run_none d; whole = rw e; room = rw e (omega arith) }

module _ (serial : ℕ) (s d out : List ℕ) (used : ℕ) (left : List (List ℕ)) (w : Writing serial s d out used left) where
  pub all_written : left ≡ [] → IsPut (bytes_of (source_records serial s)) d out used
  unfolding bytes_from bytes_of join_all
  all_written z = run_whole (bytes_of (source_records serial s)) d out used w.run (rw z at w.whole)

  pub starts : used ≤ length out
  starts = within (take used out) d out used w.run

  module _ (line : List ℕ) (rest : List (List ℕ)) (q : left ≡ line ∷ rest) where
    goods : (is_good line ≡ true) × (all is_good rest ≡ true)
    unfolding all
    goods = good_both _ _ (rw q at w.goods)

    pub line_good : is_good line ≡ true
    line_good = goods.0

    more : bytes_from serial left ≡ bytes_of (line_records serial line) ++ bytes_from serial rest
    more = ap (bytes_from serial) q ∙ bytes_more serial line rest

    parts : length (bytes_from serial left) ≡ length (bytes_of (line_records serial line)) + length (bytes_from serial rest)
    parts = ap length more ∙ length-append (bytes_of (line_records serial line)) (bytes_from serial rest)

    pub line_room : length (bytes_of (line_records serial line)) ≤ length (lent_at used out)
    line_room = simp (tail_lent, length-drop) (omega (arith, parts, w.room, put_length (take used out) d out used w.run))

    module _ (f : List ℕ) (k : ℕ) (p : IsPut (bytes_of (line_records serial line)) (lent_at used out) f k) where
      pub sum_within : used + k ≤ length d
      sum_within = omega (arith, parts, w.room, p.count)

      pub next_line : Writing serial s d (back_at used out f) (used + k) rest
      next_line = record {
        goods = goods.1;
        run = run_more d out used w.run _ f k p;
        whole = rw (run_front d out used w.run _ f k p, append_assoc (take used out) (bytes_of (line_records serial line)) (bytes_from serial rest), ← more) w.whole;
        room = omega (arith, parts, w.room, p.count);
      }

pub ruleset write_laws = (rules, begin_writing, all_written, starts, line_good, line_room, sum_within, next_line)
