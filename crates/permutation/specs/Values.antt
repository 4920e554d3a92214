-- How the code keeps a set of values below 32: value v is digit v of a number. No public contract cites this file.
use Rattle.std.specs.Prelude.{◌≡◌, List, ℕ, ◌/◌, ◌%◌, ◌^◌, ◌<◌, min, length, get_or}
use Rattle.permutation.specs.Permutation.{times}

abbrev pub digit : ℕ → ℕ → ℕ
digit v n = n / 2 ^ v % 2

-- the values of the set n are the entries of l, as far as they are below 32
pub record HasValues (n : ℕ) (l : List ℕ) : Type 0 where
  pub digits : (v : ℕ) → v < 32 → digit v n ≡ min (times v l) 1

-- each entry of l is below 32
abbrev pub Small : List ℕ → Type 0
Small l = (j : ℕ) → j < length l → get_or l j 0 < 32

-- where `over` is below 32, the set has the values of l; and it is, if every entry of l is
pub record Collected (set over : ℕ) (l : List ℕ) : Type 0 where
  pub values : over < 32 → HasValues set l
  pub small : Small l → over < 32
