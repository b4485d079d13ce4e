-- The question that a line of text is.
use Rattle.std.specs.Prelude.{ℕ, ◌&&◌, List, [], ◌∷◌, eqb, length, Option, Some, None}
use Rattle.rules.specs.Lists.{pick, value_or, is_some, all, split_on}
use Rattle.rules.specs.Fields.{lower_hex_digit, hex_from, number_of, largest_short, address_of}
use Rattle.rules.specs.Names.{name_of, wire_of}
use Rattle.rules.specs.Questions.{Question}
use Rattle.names.specs.Views.{is_named}

-- any moment of 64 bits: 16 hexadecimal digits in lower case. Asking refuses those of 2^63 and more by their own number.
unfoldable pub moment_of : List ℕ → Option ℕ
moment_of t = pick (eqb (length t) 16 && all lower_hex_digit t) (Some (hex_from 0 t)) None

-- when it is asked, and by whom
pub record Asker : Type 0 where
  pub moment : ℕ
  pub client : List ℕ

unfoldable pub asker_of : List ℕ → List ℕ → Option Asker
asker_of moment client =
    pick (is_some (moment_of moment) && is_some (address_of client))
    (Some (record { moment = value_or 0 (moment_of moment); client = value_or [] (address_of client) })) None

-- what is asked
pub record Asked : Type 0 where
  pub type : ℕ
  pub name : List ℕ

unfoldable pub asked_of : List ℕ → List ℕ → Option Asked
asked_of type name =
    pick (is_some (number_of largest_short type) && is_named (name_of name))
    (Some (record { type = value_or 0 (number_of largest_short type); name = wire_of name })) None

unfoldable pub question_from : Option Asker → Option Asked → Option Question
question_from None asked = None
question_from (Some asker) None = None
question_from (Some asker) (Some asked) = Some (record { name = asked.name; type = asked.type; client = asker.client; moment = asker.moment })

-- four texts
pub record Four : Type 0 where
  pub moment : List ℕ
  pub client : List ℕ
  pub type : List ℕ
  pub name : List ℕ

unfoldable pub four_of : List (List ℕ) → Option Four
four_of [] = None
four_of (m ∷ []) = None
four_of (m ∷ c ∷ []) = None
four_of (m ∷ c ∷ t ∷ []) = None
four_of (m ∷ c ∷ t ∷ n ∷ []) = Some (record { moment = m; client = c; type = t; name = n })
four_of (m ∷ c ∷ t ∷ n ∷ more ∷ rest) = None

unfoldable pub question_in : Option Four → Option Question
question_in None = None
question_in (Some f) = question_from (asker_of f.moment f.client) (asked_of f.type f.name)

-- the pieces between the spaces
unfoldable pub question_of : List ℕ → Option Question
question_of line = question_in (four_of (split_on 32 line))
