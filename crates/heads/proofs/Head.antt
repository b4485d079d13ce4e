-- The laws of a record's head.
use mathlib.Core.Path.{◌≡◌, ◌∙◌, sym}
use mathlib.Core.Bool.{Bool, true, false}
use mathlib.Core.List.{List, [], ◌∷◌, ◌++◌, map, append_assoc}
use Prim.Native.Nat.{ℕ, ◌+◌, ◌-◌, ◌≤◌}
use native.Mathlib.Omega.{arith}
use borrow.Author.Rules.{rules}
use lib.ListN.{length, take, drop, length-drop}
use Rattle.rules.specs.declared.quantities.Lo.{Lo}
use Rattle.rules.specs.declared.quantities.Shared.{Shared}
use Rattle.rules.specs.Lists.{pick, lower, be, le}
use Rattle.rules.specs.Records.{lo_bytes}
use Rattle.rules.specs.Bytes.{wild, unstarred, flag_and_lo}
use Rattle.buffer.specs.Put.{IsPut}
use Rattle.wire.proofs.Parts.{tail_lent}
use Rattle.buffer.proofs.Puts.{nothing}
use Rattle.wire.proofs.Compare.{longer}
use Rattle.heads.specs.Head.{owner_key, key_size, flag_of, fixed_fields, fixed_size, head_of}

-- the key of an owner with the star label, by the flag that says so
module _ (owner : List ℕ) (r : Bool) (w : r ≡ wild owner) where
  pub wild_long : r ≡ true → 2 ≤ length owner
  unfolding wild
  wild_long t = longer (1 ∷ 42 ∷ []) owner (sym w ∙ t)

  pub starred_size : r ≡ true → length owner - 2 ≡ key_size owner
  unfolding key_size pick
  starred_size t = rw (← w, t)

  starred_length : length (take (length owner - 2) (drop 2 owner)) ≡ length owner - 2
  starred_length = rw (tail_lent owner 2) (length-drop 2 owner)

  pub starred_room : (n : ℕ) → key_size owner ≤ n → r ≡ true → length (take (length owner - 2) (drop 2 owner)) ≤ n
  starred_room n h t = omega (arith, starred_length, starred_size t)

  pub starred_count : (k : ℕ) → r ≡ true → k ≡ length (take (length owner - 2) (drop 2 owner)) → k ≡ key_size owner
  starred_count k t e = e ∙ starred_length ∙ starred_size t

  pub starred_put : (d o : List ℕ) (k : ℕ) → r ≡ true → IsPut (map lower (take (length owner - 2) (drop 2 owner))) d o k → IsPut (owner_key owner) d o k
  unfolding owner_key unstarred pick
  starred_put d o k t p = rw (← w, t) (rw (tail_lent owner 2) at p)

  -- and of any other
  pub plain_size : r ≡ false → length owner ≡ key_size owner
  unfolding key_size pick
  plain_size t = rw (← w, t)

  pub plain_room : (n : ℕ) → key_size owner ≤ n → r ≡ false → length owner ≤ n
  plain_room n h t = omega (arith, plain_size t)

  pub plain_count : (k : ℕ) → r ≡ false → k ≡ length owner → k ≡ key_size owner
  plain_count k t e = e ∙ plain_size t

  pub plain_put : (d o : List ℕ) (k : ℕ) → r ≡ false → IsPut (map lower owner) d o k → IsPut (owner_key owner) d o k
  unfolding owner_key unstarred pick
  plain_put d o k t p = rw (← w, t) p

pub ruleset key_laws = (rules, wild_long, starred_size, starred_room, starred_count, starred_put, plain_size, plain_room, plain_count, plain_put)

-- lo and the flag before it
module _ (lo : Lo) where
  pub every_put : (d : List ℕ) → lo ≡ Lo.Every → IsPut (lo_bytes lo) d d 0
  unfolding lo_bytes
  every_put d e = rw e (nothing d)

  pub every_size : lo ≡ Lo.Every → 0 ≡ length (lo_bytes lo)
  unfolding lo_bytes
  every_size e = rw e

  module _ (a b : ℕ) (e : lo ≡ Lo.Code a b) where
    pub code_size : 2 ≡ length (lo_bytes lo)
    unfolding lo_bytes
    code_size = rw e

    pub code_room : (n : ℕ) → length (lo_bytes lo) ≤ n → 2 ≤ n
    code_room n h = omega (arith, code_size)

    pub code_count : (k : ℕ) → k ≡ 2 → k ≡ length (lo_bytes lo)
    code_count k h = h ∙ code_size

    pub code_put : (d o : List ℕ) (k : ℕ) → IsPut (a ∷ b ∷ []) d o k → IsPut (lo_bytes lo) d o k
    unfolding lo_bytes
    code_put d o k p = rw e p

pub ruleset lo_laws = (rules, every_put, every_size, code_size, code_room, code_count, code_put)

pub flag_lo : (w : Bool) (lo : Lo) (b : ℕ) → b ≡ flag_of w lo → b ∷ lo_bytes lo ≡ flag_and_lo w (lo_bytes lo)
unfolding lo_bytes flag_and_lo
flag_lo false Lo.Every b e = rw e
flag_lo false (Lo.Code x y) b e = rw e
flag_lo true Lo.Every b e = rw e
flag_lo true (Lo.Code x y) b e = rw e

-- the parts of a head
pub fixed_is : (shared : Shared) (owner : List ℕ) (type : ℕ) (w : Bool) → w ≡ wild owner
    → be 2 type ++ flag_and_lo w (lo_bytes shared.lo) ++ (be 4 shared.ttl.0 ++ be 8 shared.time.0) ≡ fixed_fields shared owner type
unfolding fixed_fields
fixed_is shared owner type w e =
    rw e (sym (append_assoc (be 2 type ++ flag_and_lo (wild owner) (lo_bytes shared.lo)) (be 4 shared.ttl.0) (be 8 shared.time.0)))

pub head_is : (shared : Shared) (owner : List ℕ) (type n k l : ℕ) → k ≡ key_size owner → l ≡ length (lo_bytes shared.lo)
    → le 4 k ++ le 4 (15 + l + n) ++ owner_key owner ++ fixed_fields shared owner type ≡ head_of shared owner type n
unfolding head_of fixed_size
head_is shared owner type n k l e q = rw (e, q)
