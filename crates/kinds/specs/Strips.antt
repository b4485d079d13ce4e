-- A line without the spaces and tabs at its end.
use Rattle.std.specs.Prelude.{◌≡◌, List, ℕ, ◌≤◌, length, take}
use Rattle.rules.specs.Kinds.{strip}

pub record IsStripped (line : List ℕ) (n : ℕ) : Type 0 where
  pub most : n ≤ length line
  pub left : take n line ≡ strip line
