-- A way to read the compositions of staircase bounds as permutations. Document 01, "Sheet orders", has one, by inversions, and document 02,
-- (iii), another, by major index (crate `major`); the calls and their round trips are stated for any.
use Rattle.std.specs.Prelude.{◌≡◌, true, List, ℕ, ◌+◌, ◌<◌, length}
use Rattle.walsh.specs.Order.{Composition}
use Rattle.mahonian.specs.Staircase.{is_staircase}
use Rattle.permutation.specs.Permutation.{IsPermutation, inversions, inversion_vector, permutation_of}

pub record Reading : Type 0 where
  -- what the total counts in a permutation, and the number of the refusal where it isn't the total
  pub statistic : List ℕ → ℕ
  pub number : ℕ
  -- the permutation of a composition, and the composition of a permutation
  pub permutation : List ℕ → List ℕ
  pub composition : List ℕ → List ℕ

-- "12: its inversions aren't the total"
abbrev pub by_inversions : Reading
by_inversions = record { statistic = inversions; number = 12; permutation = permutation_of; composition = inversion_vector }

-- p is a permutation of 1..k, and its total is r
pub record PermutationWith (reading : Reading) (k r : ℕ) (p : List ℕ) : Type 0 where
  pub is : IsPermutation k p
  pub total : reading.statistic p ≡ r

-- the compositions of staircase bounds of k - 1 parts and the permutations of 1..k with their total are each other's
pub record Faithful (reading : Reading) : Type 0 where
  pub refuses : 0 < reading.number
  pub permutation_is : (ms : List ℕ) (r : ℕ) (g : List ℕ) → is_staircase ms ≡ true → Composition ms r g
      → PermutationWith reading (length ms + 1) r (reading.permutation g)
  pub composition_is : (ms : List ℕ) (r : ℕ) (p : List ℕ) → is_staircase ms ≡ true → PermutationWith reading (length ms + 1) r p
      → Composition ms r (reading.composition p)
  pub composition_back : (ms : List ℕ) (r : ℕ) (g : List ℕ) → is_staircase ms ≡ true → Composition ms r g
      → reading.composition (reading.permutation g) ≡ g
  pub permutation_back : (ms : List ℕ) (r : ℕ) (p : List ℕ) → is_staircase ms ≡ true → PermutationWith reading (length ms + 1) r p
      → reading.permutation (reading.composition p) ≡ p
