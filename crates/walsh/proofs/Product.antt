-- A bound on the count that costs nothing: a composition is known by all its parts but one, so there are at most as many as the product of
-- the numbers of values of all parts but one. The part that is left out may be chosen anew at each part.
use mathlib.Core.Path.{◌≡◌, refl, sym, ◌∙◌}
use mathlib.Core.List.{List}
use Prim.Native.Nat.{ℕ, zero, suc, ◌+◌, ◌-◌, ◌*◌, ◌≤◌, ◌<◌, min}
use native.Mathlib.Nat.{suc-mul, mul_comm, mul_right_comm, mul-le-mul_right, le_refl, le_trans}
use native.Mathlib.Decide.{dec_le}
use native.Mathlib.Omega.{arith}
use lib.ListN.{get_or}
use Rattle.walsh.specs.Sums.{sum}
use Rattle.walsh.specs.Order.{count}
use Rattle.walsh.proofs.Cases.{on_less}
use Rattle.walsh.proofs.Lists.{sum_same, sum_mono}
use Rattle.walsh.proofs.Peel.{sum_swap, after, after_le, after_lt, sum_after}
use Rattle.walsh.proofs.Window.{sum_at, count_suc, count_window}

-- n numbers that are at most p
sum_most : (f : ℕ → ℕ) (p n : ℕ) → ((i : ℕ) → i < n → f i ≤ p) → sum f n ≤ n * p
sum_most f p zero h = omega arith
sum_most f p (suc n) h = omega (arith, suc-mul n p, sum_most f p n (λ i l. h i (omega arith)), h n (le_refl (suc n)))

-- what v leaves of each sum below n is below n
sum_left : (f : ℕ → ℕ) (v n : ℕ) → sum (λ t. after f t v) n ≤ sum f (n - v)
sum_left f v zero = omega arith
sum_left f v (suc n) = go (sum_left f v n) (dec_le v n)
  where
    go : sum (λ t. after f t v) n ≤ sum f (n - v) → Dec (v ≤ n) → sum (λ t. after f t v) (suc n) ≤ sum f (suc n - v)
    go below (yes l) =
        let e = sum_at f (suc n - v) (suc (n - v)) (omega arith) in
        omega (arith, after_le f n v l)
    go below (no l) =
        omega (arith, after_lt f n v (omega arith), sum_mono f (n - v) (suc n - v) (omega arith))

-- counts of the first k parts: each up to r is at most p, and those up to r together are at most p * w
pub record Few (ms : List ℕ) (r k p w : ℕ) : Type 0 where
  pub each : (t : ℕ) → t ≤ r → count ms k t ≤ p
  pub sums : (n : ℕ) → n ≤ suc r → sum (count ms k) n ≤ p * w

few_at_zero : (ms : List ℕ) (n : ℕ) → sum (count ms 0) (suc n) ≡ 1
unfolding count
few_at_zero ms zero = refl
few_at_zero ms (suc n) = omega (arith, few_at_zero ms n)

pub few_none : (ms : List ℕ) (r : ℕ) → Few ms r 0 1 1
unfolding count
few_none ms r = record { each = λ t l. one t; sums = λ n l. all n }
  where
    one : (t : ℕ) → count ms 0 t ≤ 1
    one zero = omega arith
    one (suc t) = omega arith

    all : (n : ℕ) → sum (count ms 0) n ≤ 1 * 1
    all zero = omega arith
    all (suc n) = omega (arith, few_at_zero ms n)

module _ (ms : List ℕ) (r k p w a : ℕ) (few : Few ms r k p w) (ea : a ≡ suc (min (get_or ms k 0) r)) where
  abbrev f : ℕ → ℕ
  f = count ms k

  -- the values of part k up to r
  values : (t : ℕ) → t ≤ r → count ms (suc k) t ≡ sum (after f t) a
  values t l =
      let m = get_or ms k 0 in
      let e = sum_at (λ v. f (t - v)) (suc (min m t)) (suc (min (min m r) t)) (omega arith) in
      count_suc ms k t ∙ e ∙ sum_after f (min m r) t ∙ sum_at (after f t) (suc (min m r)) a (sym ea)

  each_times : (t : ℕ) → t ≤ r → count ms (suc k) t ≤ p * a
  each_times t l =
      let n = suc (min (get_or ms k 0) t) in
      let each = sum_most (λ v. f (t - v)) p n (λ v b. few.each (t - v) (omega arith)) in
      let more = mul-le-mul_right {m = n} {n = a} p (omega arith) in
      omega (arith, count_suc ms k t, mul_comm p a)

  each_sums : (t : ℕ) → t ≤ r → count ms (suc k) t ≤ p * w
  each_sums t l = omega (arith, count_window ms k t, few.sums (t + 1) (omega arith))

  sums_times : (n : ℕ) → n ≤ suc r → sum (count ms (suc k)) n ≤ p * w * a
  sums_times n l =
      let e = sum_same (count ms (suc k)) (λ t. sum (after f t) a) n (λ t b. values t (omega arith)) in
      let s = sum_swap (λ t v. after f t v) a n in
      let u = sum_most (λ v. sum (λ t. after f t v) n) (p * w) a (λ v b. le_trans (sum_left f v n) (few.sums (n - v) (omega arith))) in
      omega (arith, mul_comm (p * w) a)

  few_times : Few ms r (suc k) (p * a) w
  few_times = record { each = each_times; sums = λ n l. rw mul_right_comm (sums_times n l) }

  few_anew : Few ms r (suc k) (p * w) a
  few_anew = record { each = each_sums; sums = sums_times }

  -- the smaller of the two is taken into the product, the larger is left out
  pub few_step : (x y : ℕ) → x ≡ min a w → y ≡ a + w - x → Few ms r (suc k) (p * x) y
  few_step x y ex ey =
      on_less a w
      (λ l t. let q : x ≡ a = omega arith in let q' : y ≡ w = omega arith in rw (q, q') few_times)
      (λ l t. let q : x ≡ w = omega arith in let q' : y ≡ a = omega arith in rw (q, q') few_anew)
