-- The laws of pieces read in turn: what is left of them tells the same of all.
use Rattle.std.proofs.Common.{◌≡◌, refl, ap, ◌∙◌, sym, ℕ, ◌+◌, ◌≤◌, List, [], ◌∷◌, ◌++◌, length, Option, Some, None, arith, append_assoc, append-nil, length-append, leb, Bool, true, false}
use borrow.Author.Tests.{le-leb, lt-leb}
use Rattle.std.proofs.Common.{map, suc, ◌&&◌, option_map}
use Rattle.std.proofs.lemmas.Option.{none-some}
use Rattle.rules.specs.Fields.{address_if}
use Rattle.rules.specs.Lists.{pick, all, join_all}
use Rattle.std.proofs.Common.{Bor}
use denote.Param.Members.{Shared}
use Rattle.pieces.specs.Pieces.{Reads, onto_read, then_read, read_all, read_in}

module _ {A : Type 0} where
  -- what is read in front of what is left
  unfoldable pub onto_all : List A → Option (List A) → Option (List A)
  onto_all done None = None
  onto_all done (Some vs) = Some (done ++ vs)

  onto_none : (r : Option (List A)) → r ≡ onto_all [] r
  unfolding onto_all
  onto_none None = refl
  onto_none (Some vs) = refl

  onto_more : (done : List A) (v : A) (r : Option (List A)) → onto_all done (onto_read v r) ≡ onto_all (done ++ (v ∷ [])) r
  unfolding onto_all onto_read
  onto_more done v None = refl
  onto_more done v (Some vs) = ap Some (sym (append_assoc done (v ∷ []) vs))

  -- the pieces before `left` are read as `done`
  pub record Going (f : List ℕ → Option A) (pieces left : List (List ℕ)) (done : List A) : Type 0 where
    pub says : read_all f pieces ≡ onto_all done (read_all f left)
    pub many : length pieces ≡ length done + length left

  pub begin : (f : List ℕ → Option A) (pieces left : List (List ℕ)) → left ≡ pieces → Going f pieces left []
  begin f pieces left e = record { says = rw e (onto_none (read_all f pieces)); many = rw e (omega arith) }

  module _ {f : List ℕ → Option A} {pieces left : List (List ℕ)} {done : List A} (e : Going f pieces left done) where
    pub turn : (p : List ℕ) (rest : List (List ℕ)) (v : A) → left ≡ p ∷ rest → f p ≡ Some v → Going f pieces rest (done ++ (v ∷ []))
    unfolding read_all then_read
    turn p rest v q r = record {
      says = e.says ∙ rw (q, r) (onto_more done v (read_all f rest));
      many = let l = rw q at e.many in omega (arith, length-append done (v ∷ []));
    }

    pub full : (p : List ℕ) (rest : List (List ℕ)) (room : ℕ) → left ≡ p ∷ rest → room ≤ length done → None ≡ read_in room f pieces
    unfolding read_in pick
    full p rest room q h = let l = rw q at e.many in rw (lt-leb (length pieces) room (omega arith)) refl

    none : (p : List ℕ) (rest : List (List ℕ)) → left ≡ p ∷ rest → f p ≡ None → read_all f pieces ≡ None
    unfolding read_all then_read onto_all
    none p rest q r = e.says ∙ rw (q, r) refl

    pub bad : (p : List ℕ) (rest : List (List ℕ)) (room : ℕ) → left ≡ p ∷ rest → f p ≡ None → None ≡ read_in room f pieces
    unfolding read_in pick
    bad p rest room q r = by (leb (length pieces) room)
      where
        by : (u : Bool) → None ≡ pick u (read_all f pieces) None
        by true = sym (none p rest q r)
        by false = refl

    pub end : (room : ℕ) → left ≡ [] → length done ≤ room → Some done ≡ read_in room f pieces
    unfolding read_in read_all onto_all pick
    end room q h = let l = rw q at e.many in rw (le-leb (length pieces) room (omega arith)) (sym (e.says ∙ rw (q, append-nil done) refl))

-- the call of the reader at a piece
module _ {F A : Type 0} (g : Shared F (Bor (List ℕ) × Unit {0}) (Option A)) (read : F) (f : List ℕ → Option A) (q : Reads g read f) where
  pub called : (piece : Bor (List ℕ)) (r : Option A) → g.post read (piece, tt) r → f piece.now ≡ r
  called piece r p = sym (q piece.now r (record { shown = piece; shows = refl; says = record { met = p } }))

-- what all pieces are read as, where one is read as its value if it is good
module _ {A : Type 0} {f : List ℕ → Option A} (good : List ℕ → Bool) (value : List ℕ → A) (reads : (t : List ℕ) → f t ≡ pick (good t) (Some (value t)) None) where
  pub all_read : (ps : List (List ℕ)) → read_all f ps ≡ pick (all good ps) (Some (map value ps)) None
  unfolding read_all all then_read onto_read pick
  all_read [] = refl
  all_read (p ∷ ps) = rw (reads p, all_read ps) (by (good p) (all good ps))
    where
      by : (u w : Bool) → then_read (pick u (Some (value p)) None) (pick w (Some (map value ps)) None) ≡ pick (u && w) (Some (value p ∷ map value ps)) None
      by true true = refl
      by true false = refl
      by false w = refl

  module _ (bytes : List ℕ → List ℕ) (encode : A → List ℕ) (same : (t : List ℕ) → bytes t ≡ encode (value t)) where
    encoded : (ps : List (List ℕ)) → map bytes ps ≡ map encode (map value ps)
    encoded [] = refl
    encoded (p ∷ ps) = rw (same p, encoded ps) refl

    pub address_read : (wanted : Bool) (ps : List (List ℕ)) → option_map (λ vs. join_all (map encode vs)) (pick wanted (read_all f ps) None) ≡ address_if wanted good bytes ps
    unfolding address_if pick
    address_read wanted ps = rw (all_read ps, encoded ps) (by wanted (all good ps))
      where
        by : (u w : Bool)
            → option_map (λ vs. join_all (map encode vs)) (pick u (pick w (Some (map value ps)) None) None) ≡ pick (u && w) (Some (join_all (map encode (map value ps)))) None
        by true true = refl
        by true false = refl
        by false w = refl

-- there are as many values as pieces
module _ {A : Type 0} (f : List ℕ → Option A) where
  pub as_many : (ps : List (List ℕ)) (vs : List A) → read_all f ps ≡ Some vs → length vs ≡ length ps
  unfolding read_all then_read onto_read
  as_many [] vs e = let q : vs ≡ [] = cc in rw q refl
  as_many (p ∷ ps) vs e = by (f p) (read_all f ps) (as_many ps) e
    where
      by : (u : Option A) (w : Option (List A)) → ((ws : List A) → w ≡ Some ws → length ws ≡ length ps) → then_read u w ≡ Some vs → length vs ≡ length (p ∷ ps)
      by (Some v) (Some ws) h r = let z : vs ≡ v ∷ ws = cc in rw z (ap suc (h ws refl))
      by (Some v) None h r = absurd (none-some _ r)
      by None w h r = absurd (none-some _ r)

-- what was read within the room tells what all pieces are
module _ {A : Type 0} (f : List ℕ → Option A) (room : ℕ) (ps : List (List ℕ)) where
  pub none_read : (wanted : Bool) → (wanted ≡ true → length ps ≤ room) → None ≡ read_in room f ps → pick wanted (read_all f ps) None ≡ None
  unfolding read_in pick
  none_read true h e = sym (e ∙ rw (le-leb (length ps) room (h refl)) refl)
  none_read false h e = refl

  pub some_read : (vs : List A) → Some vs ≡ read_in room f ps → (read_all f ps ≡ Some vs) × (length vs ≡ length ps)
  unfolding read_in pick
  some_read vs e = by (leb (length ps) room) e
    where
      by : (u : Bool) → Some vs ≡ pick u (read_all f ps) None → (read_all f ps ≡ Some vs) × (length vs ≡ length ps)
      by true r = (sym r, as_many f ps vs (sym r))
      by false r = absurd (none-some _ (sym r))
