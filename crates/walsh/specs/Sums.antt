-- Sums and joined lists, by the number of their terms: the two words in which the order and its count are said.
use Rattle.std.specs.Prelude.{List, [], ◌++◌, ℕ, zero, suc, ◌+◌, get_or}

-- f 0 + .. + f (n - 1)
abbrev pub sum : (ℕ → ℕ) → ℕ → ℕ
sum f zero = 0
sum f (suc n) = sum f n + f n

-- the entries of f 0, then those of f 1, .. , then those of f (n - 1)
abbrev pub flat : (ℕ → List (List ℕ)) → ℕ → List (List ℕ)
flat f zero = []
flat f (suc n) = flat f n ++ f n

-- the sum of the first k numbers of a list
abbrev pub sum_to : List ℕ → ℕ → ℕ
sum_to xs k = sum (λ i. get_or xs i 0) k
