-- The table meets the rule at each of its entries, by one test that antt computes; so it holds the Mahonian numbers, and they count.
use mathlib.Core.Path.{◌≡◌, refl, sym, ◌∙◌}
use mathlib.Core.Bool.{Bool, true}
use mathlib.Core.List.{List}
use Prim.Native.Nat.{ℕ, zero, suc, ◌+◌, ◌-◌, ◌*◌, ◌≤◌, ◌<◌}
use native.Mathlib.Decide.{dec_le}
use native.Mathlib.Omega.{arith}
use borrow.Author.Tests.{le-leb, lt-leb, eqb-true, ltb-true}
use lib.Dec.{eqb, ltb}
use lib.ListN.{length, get_or}
use Rattle.walsh.specs.Tests.{every}
use Rattle.walsh.specs.Sums.{sum_to}
use Rattle.walsh.specs.Order.{count_of}
use Rattle.walsh.proofs.Tests.{every_at}
use Rattle.walsh.proofs.Listing.{count_none}
use Rattle.mahonian.specs.Mahonian.{rule, mahonian, top}
use Rattle.mahonian.specs.Staircase.{staircase}
use Rattle.mahonian.specs.Table.{table, start, entry}
use Rattle.mahonian.proofs.Counting.{mahonian_count}

-- ---- the rule, in the table's own entries: row k = suc (suc n)

-- M(k, r - 1), and 0 where r is 0
abbrev left : (ℕ → ℕ) → ℕ → ℕ
left row zero = 0
left row (suc r) = row r

abbrev ruled : ℕ → ℕ → ℕ
ruled n r = rule (suc (suc n)) (left (entry (suc (suc n))) r) (entry (suc n)) r

abbrev row_test : ℕ → Bool
row_test n = every (λ r. eqb (entry (suc (suc n)) r) (ruled n r)) (suc (top (suc (suc n))))

test : every row_test 15 ≡ true
unfolding table
test = refl

pub table_rule : (n r : ℕ) → n < 15 → r ≤ top (suc (suc n)) → entry (suc (suc n)) r ≡ ruled n r
table_rule n r h l =
    eqb-true (entry (suc (suc n)) r) (ruled n r)
    (every_at (λ x. eqb (entry (suc (suc n)) x) (ruled n x)) (suc (top (suc (suc n)))) (every_at row_test 15 test n h) r (omega arith))

-- ---- above a row's end the numbers are 0

-- the bounds of k = suc n sum to top k
abbrev sum_test : ℕ → Bool
sum_test n = eqb (sum_to (staircase (suc n)) (length (staircase (suc n)))) (top (suc n))

sums : every sum_test 16 ≡ true
unfolding staircase
sums = refl

pub staircase_sum : (n : ℕ) → n < 16 → sum_to (staircase (suc n)) (length (staircase (suc n))) ≡ top (suc n)
staircase_sum n h = eqb-true (sum_to (staircase (suc n)) (length (staircase (suc n)))) (top (suc n)) (every_at sum_test 16 sums n h)

above_top : (n r : ℕ) → n < 16 → top (suc n) < r → mahonian (suc n) r ≡ 0
unfolding count_of
above_top n r h l =
    let ms : List ℕ = staircase (suc n) in
    mahonian_count n r ∙ count_none ms (length ms) r (rw (staircase_sum n h) l)

-- ---- the entries

module _ (n : ℕ) (h : n < 15) (above : (r : ℕ) → entry (suc n) r ≡ mahonian (suc n) r) where
  inside : (r : ℕ) → r ≤ top (suc (suc n)) → entry (suc (suc n)) r ≡ mahonian (suc (suc n)) r
  unfolding mahonian
  inside zero l = table_rule n 0 h l ∙ rw (above 0, above (0 - suc (suc n)))
  inside (suc r) l = table_rule n (suc r) h l ∙ rw (inside r (omega arith), above (suc r), above (suc r - suc (suc n)))

-- the table holds the Mahonian numbers
entry_is : (n : ℕ) → n < 16 → (r : ℕ) → entry (suc n) r ≡ mahonian (suc n) r
entry_is zero h r = unfold mahonian in refl
entry_is (suc n) h r = go (λ x. entry_is n (omega arith) x) (dec_le r (top (suc (suc n))))
  where
    go : ((x : ℕ) → entry (suc n) x ≡ mahonian (suc n) x) → Dec (r ≤ top (suc (suc n))) → entry (suc (suc n)) r ≡ mahonian (suc (suc n)) r
    go above (yes l) = inside n (omega arith) above r l
    go above (no l) = rw (lt-leb r (top (suc (suc n))) (omega arith)) (sym (above_top (suc n) r h (omega arith)))

-- ---- where the rows stand

-- the products in a row's start and end are small, and the row is in the table
pub record Row (k : ℕ) : Type 0 where
  pub pairs : k * (k - 1) < 241
  pub triples : k * (k - 1) * (k - 2) < 3361
  pub within : start k + top k < 695

below : (f : ℕ → ℕ) (b : ℕ) → every (λ k. ltb (f k) b) 17 ≡ true → (k : ℕ) → k ≤ 16 → f k < b
below f b e k h = ltb-true (f k) b (every_at (λ i. ltb (f i) b) 17 e k (omega arith))

pub row_at : (k : ℕ) → k ≤ 16 → Row k
row_at k h =
    record {
      pairs = below (λ i. i * (i - 1)) 241 refl k h;
      triples = below (λ i. i * (i - 1) * (i - 2)) 3361 refl k h;
      within = below (λ i. start i + top i) 695 refl k h;
    }

-- what stands at a row's entry
pub stored_is : (k r : ℕ) → 2 ≤ k → k ≤ 16 → r ≤ top k → get_or table (start k + r) 0 ≡ mahonian k r
stored_is zero r low high h = absurd (omega arith)
stored_is (suc zero) r low high h = absurd (omega arith)
stored_is (suc (suc n)) r low high h = inner ∙ entry_is (suc n) (omega arith) r
  where
    inner : get_or table (start (suc (suc n)) + r) 0 ≡ entry (suc (suc n)) r
    inner = rw (le-leb r (top (suc (suc n))) h)
