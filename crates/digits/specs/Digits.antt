-- Document 02, (vii), "Mistyped order numbers": "the digits, weighted 1, 3, 1, 3 and so on from the right, sum to a multiple of ten: 1007 passes, 1008
-- fails". Such a number ends in a check digit; article numbers (EAN) are made in the same way.
use Rattle.std.specs.Prelude.{◌≡◌, refl, Bool, true, false, cond, [], ◌∷◌, map, ℕ, ◌*◌, ◌/◌, ◌%◌, ◌^◌, eqb}
use Rattle.walsh.specs.Order.{is_odd}
use Rattle.walsh.specs.Sums.{sum}

-- the decimal digit of n at place k, from the right and from 0; 0 where n has no such place
abbrev pub digit_at : ℕ → ℕ → ℕ
digit_at n k = n / 10 ^ k % 10

-- "1, 3, 1, 3 and so on"
abbrev pub weight_at : ℕ → ℕ
weight_at k = cond (is_odd k) 3 1

-- document 01: "An order number has 32 bits", so ten places are all (`all_digits` in proofs/Places)
abbrev pub places : ℕ
places = 10

unfoldable pub weighted_sum : ℕ → ℕ
weighted_sum n = sum (λ k. weight_at k * digit_at n k) places

-- "sum to a multiple of ten"; the same as a test
abbrev pub Passes : ℕ → Type 0
Passes n = weighted_sum n % 10 ≡ 0

abbrev pub passes : ℕ → Bool
passes n = eqb (weighted_sum n % 10) 0

-- for example, the two of the document, another, 0, which no order has, and the largest number of 32 bits
sums : map weighted_sum (1007 ∷ 1008 ∷ 1014 ∷ 0 ∷ 4294967295 ∷ []) ≡ 10 ∷ 11 ∷ 10 ∷ 0 ∷ 133 ∷ []
unfolding weighted_sum
sums = refl

passed : map passes (1007 ∷ 1008 ∷ 1014 ∷ 0 ∷ 4294967295 ∷ []) ≡ true ∷ false ∷ true ∷ true ∷ false ∷ []
unfolding weighted_sum
passed = refl
