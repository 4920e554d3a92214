-- The Mahonian numbers count the compositions under the bounds k - 1, .. , 2, 1: row k is a window of k entries that slides over row k - 1.
use mathlib.Core.Path.{◌≡◌, refl, sym, ap, ◌∙◌}
use mathlib.Core.Bool.{cond}
use mathlib.Core.List.{List, [], ◌∷◌}
use Prim.Native.Nat.{ℕ, zero, suc, ◌+◌, ◌-◌, ◌≤◌}
use native.Mathlib.Nat.{add-zero, sub-zero}
use native.Mathlib.Decide.{dec_le}
use native.Mathlib.Omega.{arith}
use borrow.Author.Tests.{le-leb, lt-leb, lt-ltb, le-ltb}
use lib.Dec.{ltb, leb-suc-suc, leb-suc-zero, leb-zero}
use lib.ListN.{length}
use Rattle.walsh.specs.Sums.{sum}
use Rattle.walsh.specs.Order.{count, count_of}
use Rattle.walsh.proofs.Lists.{sum_same, sum_none, sum_front}
use Rattle.walsh.proofs.Peel.{after, after_same, count_first}
use Rattle.mahonian.specs.Mahonian.{first_row, mahonian}
use Rattle.mahonian.specs.Staircase.{staircase}

module _ (f : ℕ → ℕ) where
  after_suc : (r v : ℕ) → after f (suc r) (suc v) ≡ after f r v
  after_suc r v =
      let e : suc r - suc v ≡ r - v = omega arith in
      rw (leb-suc-suc v r, e)

  after_zero : (r : ℕ) → after f r 0 ≡ f r
  after_zero r = rw (leb-zero r, sub-zero r)

  -- the window moves on by one: f (suc r) comes in, and f (suc r - k) goes out
  window : (k r : ℕ) → sum (after f (suc r)) k + after f (suc r) k ≡ f (suc r) + sum (after f r) k
  window k r =
      sum_front (after f (suc r)) k
      ∙ ap (λ (n : ℕ). n + sum (λ v. after f (suc r) (suc v)) k) (after_zero (suc r))
      ∙ ap (λ (n : ℕ). f (suc r) + n) (sum_same (λ v. after f (suc r) (suc v)) (after f r) k (λ v l. after_suc r v))

  window_first : (k : ℕ) → sum (after f 0) (suc k) ≡ f 0
  window_first k =
      sum_front (after f 0) k ∙ rw (sum_none (λ v. after f 0 (suc v)) k (λ v l. rw (leb-suc-zero v))) (add-zero (after f 0 0) ∙ after_zero 0)

  -- what the rule subtracts, from r = k on
  out : (k r : ℕ) → after f r k ≡ cond (ltb r k) 0 (f (r - k))
  out k r = go (dec_le k r)
    where
      go : Dec (k ≤ r) → after f r k ≡ cond (ltb r k) 0 (f (r - k))
      go (yes l) = rw (le-leb k r l, le-ltb r k l)
      go (no l) = rw (lt-leb k r (omega arith), lt-ltb r k (omega arith))

-- ---- row k = suc (suc n)

row_next : (n r : ℕ)
    → mahonian (suc (suc n)) r ≡ sum (after (mahonian (suc n)) r) (suc (suc n))
    → mahonian (suc (suc n)) (suc r) ≡ sum (after (mahonian (suc n)) (suc r)) (suc (suc n))
unfolding mahonian
row_next n r e = omega (arith, e, window (mahonian (suc n)) (suc (suc n)) r, out (mahonian (suc n)) (suc (suc n)) (suc r))

row_window : (n r : ℕ) → mahonian (suc (suc n)) r ≡ sum (after (mahonian (suc n)) r) (suc (suc n))
unfolding mahonian
row_window n zero = rw (lt-ltb 0 (suc (suc n)) (omega arith)) (omega (arith, window_first (mahonian (suc n)) (suc n)))
row_window n (suc r) = row_next n r (row_window n r)

no_parts : (r : ℕ) → first_row r ≡ count_of [] r
unfolding count_of count
no_parts zero = refl
no_parts (suc r) = refl

count_of_first : (m : ℕ) (ms : List ℕ) (r : ℕ) → count_of (m ∷ ms) r ≡ sum (after (count_of ms) r) (suc m)
unfolding count_of
count_of_first m ms r = count_first m ms (length ms) r

-- M(k, r) is the count, for every k = suc n and every r, not only those of the table
pub mahonian_count : (n r : ℕ) → mahonian (suc n) r ≡ count_of (staircase (suc n)) r
unfolding mahonian staircase
mahonian_count zero r = no_parts r
mahonian_count (suc n) r =
    row_window n r
    ∙ sum_same
    (after (mahonian (suc n)) r)
    (after (count_of (staircase (suc n))) r)
    (suc (suc n))
    (λ v l. after_same (mahonian (suc n)) (count_of (staircase (suc n))) r v (mahonian_count n))
    ∙ sym (count_of_first (suc n) (staircase (suc n)) r)
