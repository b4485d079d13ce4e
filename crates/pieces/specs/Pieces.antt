-- The pieces of a text between the bytes equal to b, by their places.
use Rattle.std.specs.Prelude.{◌≡◌, List, [], ◌∷◌, ℕ, zero, suc, ◌+◌, ◌≤◌, eqb, leb, length, drop, Option, Some, None}
use Rattle.std.specs.Fn.{FnReturnsAt}
use denote.Ref.{Bor}
use denote.Param.Members.{Shared}
use Rattle.rules.specs.Lists.{pick, split_on}

-- the place of the first byte b, or the length
unfoldable pub first_at : ℕ → List ℕ → ℕ
first_at b [] = 0
first_at b (x ∷ xs) = pick (eqb x b) 0 (suc (first_at b xs))

-- the piece that begins at start ends at r
pub record IsEnd (b : ℕ) (text : List ℕ) (start r : ℕ) : Type 0 where
  pub says : r ≡ start + first_at b (drop start text)
  pub above : start ≤ r
  pub within : r ≤ length text

-- the pieces behind a byte b, where there is one
unfoldable pub behind_byte : ℕ → List ℕ → List (List ℕ)
behind_byte b [] = []
behind_byte b (x ∷ xs) = split_on b xs

-- the pieces of a text from the place on where one begins; none begin behind its end
unfoldable pub pieces_from : ℕ → List ℕ → ℕ → List (List ℕ)
pieces_from b text zero = split_on b text
pieces_from b text (suc end) = behind_byte b (drop end text)

-- the pieces of what is left of a text
unfoldable pub pieces_left : ℕ → Option (Bor (List ℕ)) → List (List ℕ)
pieces_left b None = []
pieces_left b (Some text) = split_on b text.now

-- what a reader of pieces computes
abbrev pub Reads : {F A : Type 0} → Shared F (Bor (List ℕ) × Unit {0}) (Option A) → F → (List ℕ → Option A) → Type 0
Reads g read f = (piece : List ℕ) (r : _) → FnReturnsAt g read piece r → r ≡ f piece

module _ {A : Type 0} where
  unfoldable pub onto_read : A → Option (List A) → Option (List A)
  onto_read v None = None
  onto_read v (Some vs) = Some (v ∷ vs)

  unfoldable pub then_read : Option A → Option (List A) → Option (List A)
  then_read None vs = None
  then_read (Some v) vs = onto_read v vs

  -- each piece read, where each can be
  unfoldable pub read_all : (List ℕ → Option A) → List (List ℕ) → Option (List A)
  read_all f [] = Some []
  read_all f (p ∷ ps) = then_read (f p) (read_all f ps)

  -- the same, where there are no more pieces than room for them
  unfoldable pub read_in : ℕ → (List ℕ → Option A) → List (List ℕ) → Option (List A)
  read_in room f pieces = pick (leb (length pieces) room) (read_all f pieces) None
