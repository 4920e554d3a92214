-- Document 01, "Sheet orders": permutations of 1..k and their inversion vectors. The document's sheet order p1..pk is a list p. Places are
-- counted from 0 here: `get_or p i 0` is its p(i+1). A reader who believes this file, `Exchange`, `Reading`, `Numbered` and `Conversions`
-- knows what is promised.
use Rattle.std.specs.Prelude.{◌≡◌, refl, Bool, cond, true, List, [], ◌∷◌, ◌++◌, map, ℕ, zero, suc, ◌-◌, ◌≤◌, eqb, ltb, length, get_or}
use Rattle.walsh.specs.Tests.{both, every}
pub use Rattle.walsh.specs.Tests.{how_many, times}
use Rattle.walsh.specs.Sums.{sum}

-- ---- "A sheet order is a permutation p1..pk of 1..k"

-- p has k entries, and each of 1..k is exactly one of them
pub record IsPermutation (k : ℕ) (p : List ℕ) : Type 0 where
  pub size : length p ≡ k
  pub once : (v : ℕ) → 1 ≤ v → v ≤ k → times v p ≡ 1

-- the same as a test
unfoldable pub is_permutation : ℕ → List ℕ → Bool
is_permutation k p = both (eqb (length p) k) (every (λ v. eqb (times (suc v) p) 1) k)

-- ---- "Its mix: gi = how many pj with j > i are smaller than pi."

-- 1 if j > i and pj is smaller than pi, else 0
abbrev pub inverted : List ℕ → ℕ → ℕ → ℕ
inverted p i j = cond (both (ltb i j) (ltb (get_or p j 0) (get_or p i 0))) 1 0

-- how many j are such
abbrev pub smaller_after : List ℕ → ℕ → ℕ
smaller_after p i = sum (λ j. inverted p i j) (length p)

-- f 0, .. , f (n - 1)
abbrev pub tabulate : (ℕ → ℕ) → ℕ → List ℕ
tabulate f zero = []
tabulate f (suc n) = tabulate f n ++ (f n ∷ [])

-- g1..g(k-1)
unfoldable pub inversion_vector : List ℕ → List ℕ
inversion_vector p = tabulate (smaller_after p) (length p - 1)

-- "So its inversions number r."
unfoldable pub inversions : List ℕ → ℕ
inversions p = sum (smaller_after p) (length p)

-- ---- the way back

-- room for the value c + 1: the values over c are one more
unfoldable pub lift : ℕ → ℕ → ℕ
lift c x = cond (ltb c x) (suc x) x

-- the permutation of 1..k whose inversion vector is g: its first entry has g1 smaller ones behind it
unfoldable pub permutation_of : List ℕ → List ℕ
permutation_of [] = 1 ∷ []
permutation_of (c ∷ g) = suc c ∷ map (lift c) (permutation_of g)

-- ---- the document's copy G, its third row, computed

abbrev pub third_of_g : List ℕ
third_of_g = 2 ∷ 4 ∷ 1 ∷ 3 ∷ []

the_test : is_permutation 4 third_of_g ≡ true
unfolding is_permutation
the_test = refl

the_vector : inversion_vector third_of_g ≡ 1 ∷ 2 ∷ 0 ∷ []
unfolding inversion_vector
the_vector = refl

the_permutation : permutation_of (1 ∷ 2 ∷ 0 ∷ []) ≡ third_of_g
unfolding permutation_of lift
the_permutation = refl
