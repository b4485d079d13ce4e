-- 02, W3: worked examples of comparisons, as a table under one statement, `comparing_examples_hold`.
use Rattle.std.specs.Prelude.{ℕ, ◌≡◌, true, false, List, [], ◌∷◌, map}
use Rattle.rules.specs.declared.comparisons.Compared.{Compared}
use Rattle.rules.specs.Lists.{lower}
use Rattle.rules.specs.Comparing.{verdict, compared}

-- the names w.x.b, x.b, a.b, b and www.b
unfoldable pub wxb : List ℕ
wxb = 1 ∷ 119 ∷ 1 ∷ 120 ∷ 1 ∷ 98 ∷ 0 ∷ []

unfoldable pub xb : List ℕ
xb = 1 ∷ 120 ∷ 1 ∷ 98 ∷ 0 ∷ []

unfoldable pub ab : List ℕ
ab = 1 ∷ 97 ∷ 1 ∷ 98 ∷ 0 ∷ []

unfoldable pub b : List ℕ
b = 1 ∷ 98 ∷ 0 ∷ []

unfoldable pub wwwb : List ℕ
wwwb = 3 ∷ 119 ∷ 119 ∷ 119 ∷ 1 ∷ 98 ∷ 0 ∷ []

-- a key, a name as it is asked, and what is said of them
unfoldable pub table : List (List ℕ × List ℕ × Compared)
table =
    ([], [], verdict true 0)
    ∷ (0 ∷ [], 0 ∷ [], verdict true 1)
    ∷ (1 ∷ 97 ∷ 0 ∷ [], 1 ∷ 97 ∷ 0 ∷ [], verdict true 3)
    ∷ (1 ∷ 97 ∷ 0 ∷ [], 1 ∷ 65 ∷ 0 ∷ [], verdict true 3)
    ∷ (1 ∷ 97 ∷ 0 ∷ [], 1 ∷ 98 ∷ 0 ∷ [], verdict false 2)
    ∷ (1 ∷ 97 ∷ 0 ∷ [], 2 ∷ 97 ∷ 98 ∷ 0 ∷ [], verdict false 0)
    ∷ (2 ∷ 97 ∷ 98 ∷ 0 ∷ [], 1 ∷ 97 ∷ 1 ∷ [], verdict false 0)
    ∷ (2 ∷ 97 ∷ 98 ∷ 0 ∷ [], 2 ∷ 97 ∷ 99 ∷ 0 ∷ [], verdict false 3)
    ∷ (2 ∷ 97 ∷ 98 ∷ 0 ∷ [], 1 ∷ 98 ∷ 98 ∷ 0 ∷ [], verdict false 1)
    ∷ (1 ∷ 97 ∷ 1 ∷ 98 ∷ 0 ∷ [], 1 ∷ 97 ∷ 1 ∷ 99 ∷ 0 ∷ [], verdict false 4)
    ∷ (1 ∷ 91 ∷ 0 ∷ [], 1 ∷ 123 ∷ 0 ∷ [], verdict false 2)
    ∷ (1 ∷ 97 ∷ 0 ∷ [], 1 ∷ 97 ∷ 1 ∷ [], verdict false 3)
    -- a key is compared as it is
    ∷ (1 ∷ 65 ∷ 0 ∷ [], 1 ∷ 97 ∷ 0 ∷ [], verdict false 2)
    -- a question for w.x.b: with the name itself, and with its ancestor x.b
    ∷ (wxb, wxb, verdict true 7)
    ∷ (xb, wxb, verdict false 0)
    ∷ (ab, wxb, verdict false 0)
    ∷ (b, wxb, verdict false 0)
    ∷ (wwwb, wxb, verdict false 1)
    ∷ (wxb, xb, verdict false 0)
    ∷ (xb, xb, verdict true 5)
    ∷ (ab, xb, verdict false 2)
    ∷ (b, xb, verdict false 0)
    ∷ (wwwb, xb, verdict false 0)
    ∷ []

unfoldable pub ComparingExamples : Type 0
ComparingExamples =
    map (λ (r : List ℕ × List ℕ × Compared). compared r.0 (map lower r.1)) table ≡ map (λ r. r.2) table
