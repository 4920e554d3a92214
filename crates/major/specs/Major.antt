-- Document 02, (iii): permutations of 1..k by major index (source document 003), and the compositions that read as them. Places of a list are
-- counted from 0: `get_or p i 0` is the document's sheet i + 1. A reader who believes this file, `Reading` and `Matched` knows what is promised beyond
-- crate `permutation`.
use Rattle.std.specs.Prelude.{◌≡◌, refl, Bool, cond, List, [], ◌∷◌, ◌++◌, ℕ, zero, suc, ◌-◌, ltb, length, get_or, take, drop}
use Rattle.walsh.specs.Sums.{sum}
use Rattle.walsh.specs.Tests.{either, both}
use Rattle.permutation.specs.Permutation.{how_many, tabulate}

-- ---- "the sum of the places i at which sheet i is greater than sheet i + 1"

-- the place, counted from 1, if its sheet is greater than the next, else 0
abbrev pub descent : List ℕ → ℕ → ℕ
descent p i = cond (ltb (get_or p (suc i) 0) (get_or p i 0)) (suc i) 0

-- of the k sheets the last has no next
unfoldable pub major_index : List ℕ → ℕ
major_index p = sum (descent p) (length p - 1)

-- ---- "t of row k + 1 − j is the count of kind j, and t of row 1 is 0"

-- t of row i; the count of kind j stands at place j - 1 of g, and row 1 falls behind its last place
abbrev pub row_of : List ℕ → ℕ → ℕ
row_of g i = get_or g (suc (length g) - i) 0

-- ---- "Start with 1..k; for i from k down to 1 turn the first i sheets right by t of row i."

-- 1..k
abbrev pub up_to : ℕ → List ℕ
up_to k = tabulate suc k

-- the first i sheets of l turned right by t: the last t of them come to the front
abbrev pub turn_right : ℕ → ℕ → List ℕ → List ℕ
turn_right i t l = drop (i - t) (take i l) ++ take (i - t) l ++ drop i l

-- for each i from the given one down to 1
unfoldable pub turn_rows : (ℕ → ℕ) → ℕ → List ℕ → List ℕ
turn_rows t zero l = l
turn_rows t (suc i) l = turn_rows t i (turn_right (suc i) (t (suc i)) l)

-- the permutation of the composition g of k - 1 parts
unfoldable pub major_permutation : List ℕ → List ℕ
major_permutation g = let k : ℕ = suc (length g) in
    turn_rows (row_of g) k (up_to k)

-- ---- the way back

-- x is met on the way up from a to b, where 1 comes again after the greatest
abbrev pub between : ℕ → ℕ → ℕ → Bool
between a b x = cond (ltb a b) (both (ltb a x) (ltb x b)) (either (ltb a x) (ltb x b))

-- t of row i + 1: how many of the first i sheets are met on the way up from sheet i + 1 to the next; behind the last stands a 0
abbrev pub row_at : List ℕ → ℕ → ℕ
row_at p i = how_many (between (get_or p i 0) (get_or p (suc i) 0)) (take i p)

-- the McMahon code of p without row 1, from row k down: the composition that reads as p
unfoldable pub major_code : List ℕ → List ℕ
major_code p = tabulate (λ j. row_at p (length p - suc j)) (length p - 1)

-- ---- the document's examples, and that of the source, computed

three : (major_permutation (1 ∷ 0 ∷ []) ≡ 3 ∷ 1 ∷ 2 ∷ []) × (major_permutation (0 ∷ 1 ∷ []) ≡ 2 ∷ 1 ∷ 3 ∷ [])
unfolding major_permutation turn_rows
three = (refl, refl)

three_back : (major_code (3 ∷ 1 ∷ 2 ∷ []) ≡ 1 ∷ 0 ∷ []) × (major_code (2 ∷ 1 ∷ 3 ∷ []) ≡ 0 ∷ 1 ∷ [])
unfolding major_code
three_back = (refl, refl)

-- "MAJ = 3 + 4 + 2 + 2 + 1 + 0 = 12", rows 6 to 1
abbrev six : List ℕ
six = 5 ∷ 2 ∷ 1 ∷ 6 ∷ 4 ∷ 3 ∷ []

six_index : major_index six ≡ 12
unfolding major_index
six_index = refl

six_there : major_permutation (3 ∷ 4 ∷ 2 ∷ 2 ∷ 1 ∷ []) ≡ six
unfolding major_permutation turn_rows
six_there = refl

six_back : major_code six ≡ 3 ∷ 4 ∷ 2 ∷ 2 ∷ 1 ∷ []
unfolding major_code
six_back = refl
