-- Document 01, "Counting table": "The numbers M(k, r) of orders of k sheets with r inversions", by its rule, and which of them the table has.
use Rattle.std.specs.Prelude.{Bool, cond, ℕ, zero, suc, ◌+◌, ◌-◌, ◌*◌, ◌/◌, ltb, leb}
use Rattle.walsh.specs.Tests.{both}

-- "M(k, r) = M(k, r−1) + M(k−1, r) − M(k−1, r−k), with 0 outside the range": `left` is M(k, r - 1), `above` is row k - 1.
-- "Subtracting from r = k on only"
abbrev pub rule : ℕ → ℕ → (ℕ → ℕ) → ℕ → ℕ
rule k left above r = left + above r - cond (ltb r k) 0 (above (r - k))

-- "M(1, 0) = 1"
abbrev pub first_row : ℕ → ℕ
first_row zero = 1
first_row (suc r) = 0

unfoldable pub mahonian : ℕ → ℕ → ℕ
mahonian zero r = 0
mahonian (suc zero) r = first_row r
mahonian (suc (suc n)) zero = rule (suc (suc n)) 0 (mahonian (suc n)) 0
mahonian (suc (suc n)) (suc r) = rule (suc (suc n)) (mahonian (suc (suc n)) r) (mahonian (suc n)) (suc r)

-- the last r of row k
abbrev pub top : ℕ → ℕ
top k = k * (k - 1) / 2

-- "k from 2 to 16, every r from 0 to k(k−1)/2"
abbrev pub in_table : ℕ → ℕ → Bool
in_table k r = both (leb 2 k) (both (leb k 16) (leb r (top k)))
