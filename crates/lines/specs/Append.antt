-- Bytes put into a buffer behind those that stand there.
use Rattle.std.specs.Prelude.{◌≡◌, List, [], ◌∷◌, ◌++◌, ℕ, ◌+◌, ◌/◌, ◌%◌, length, take, drop}

-- the text stands from `at` to `end` now, and the bytes behind it are as they were
pub record Appended (before after : List ℕ) (at end : ℕ) (text : List ℕ) : Type 0 where
  pub front : take end after ≡ take at before ++ text
  pub rest : drop end after ≡ drop end before
  pub ends : end ≡ at + length text
  pub size : length after ≡ length before

-- two digits, leading zero included
abbrev pub two_digits : ℕ → List ℕ
two_digits n = (48 + n / 10) ∷ (48 + n % 10) ∷ []
