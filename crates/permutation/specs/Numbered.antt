-- Document 01, "Counting table": "The numbers M(k, r) of orders of k sheets with r inversions"; said of any reading of compositions as
-- permutations, whatever its total counts. The numbers themselves, by their rule, are mahonian specs/Mahonian.
use Rattle.std.specs.Prelude.{◌≡◌, List, [], map, ℕ, ◌<◌, length, get_or}
use Rattle.walsh.specs.Order.{order}
use Rattle.mahonian.specs.Mahonian.{mahonian}
use Rattle.mahonian.specs.Staircase.{staircase}
use Rattle.permutation.specs.Reading.{Reading, PermutationWith}

-- the permutations of the compositions, in the order of their serials
unfoldable pub permutations_of : Reading → ℕ → ℕ → List (List ℕ)
permutations_of reading k r = map reading.permutation (order (staircase k) r)

-- ps has M(k, r) entries, each of them is a permutation of 1..k whose total is r, and each such permutation stands at one place
pub record Numbered (reading : Reading) (k r : ℕ) (ps : List (List ℕ)) : Type 0 where
  pub number : length ps ≡ mahonian k r
  pub sound : (s : ℕ) → s < length ps → PermutationWith reading k r (get_or ps s [])
  pub complete : (p : List ℕ) → PermutationWith reading k r p → (s : ℕ) × (s < length ps) × (get_or ps s [] ≡ p)
  pub once : (s s' : ℕ) → s < length ps → s' < length ps → get_or ps s [] ≡ get_or ps s' [] → s ≡ s'
