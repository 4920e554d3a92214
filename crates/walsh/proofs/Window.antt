-- The count as a window that slides along the counts of one part fewer.
use mathlib.Core.Path.{◌≡◌, refl, ap}
use mathlib.Core.List.{List}
use Prim.Native.Nat.{ℕ, zero, suc, ◌+◌, ◌-◌, ◌≤◌, min}
use native.Mathlib.Omega.{arith}
use native.Mathlib.Numerals.{add-one}
use lib.ListN.{get_or}
use Rattle.walsh.specs.Sums.{sum}
use Rattle.walsh.specs.Order.{count}
use Rattle.walsh.proofs.Lists.{sum_mono}

-- ---- sums

pub sum_at : (f : ℕ → ℕ) (a b : ℕ) → a ≡ b → sum f a ≡ sum f b
sum_at f a b e = ap {A = ℕ} {B = ℕ} (sum f) {x = a} {y = b} e

pub sum_step : (f : ℕ → ℕ) (n : ℕ) → sum f (n + 1) ≡ sum f n + f n
sum_step f n = rw add-one

-- n terms downwards from t, and all before them, are all up to t
window : (f : ℕ → ℕ) (t n : ℕ) → n ≤ t + 1 → sum (λ v. f (t - v)) n + sum f (t + 1 - n) ≡ sum f (t + 1)
window f t zero l =
    let e = sum_at f (t + 1 - 0) (t + 1) (omega arith) in
    omega arith
window f t (suc n) l =
    let e = sum_at f (t + 1 - n) (t - n + 1) (omega arith) in
    let e' = sum_at f (t + 1 - suc n) (t - n) (omega arith) in
    omega (arith, window f t n (omega arith), sum_step f (t - n))

-- ---- counts

-- no part: one composition of 0
pub count_zero : (ms : List ℕ) → count ms 0 0 ≡ 1
unfolding count
count_zero ms = refl

pub count_suc : (ms : List ℕ) (k t : ℕ) → count ms (suc k) t ≡ sum (λ v. count ms k (t - v)) (suc (min (get_or ms k 0) t))
unfolding count
count_suc ms k t = refl

-- a count is a window of the counts of one part fewer
pub count_window : (ms : List ℕ) (k t : ℕ) → count ms (suc k) t + sum (count ms k) (t - get_or ms k 0) ≡ sum (count ms k) (t + 1)
count_window ms k t =
    let n = suc (min (get_or ms k 0) t) in
    let e = sum_at (count ms k) (t + 1 - n) (t - get_or ms k 0) (omega arith) in
    omega (arith, count_suc ms k t, window (count ms k) t n (omega arith))

-- a composition of t with the value v behind it is one of t + v
pub count_grows : (ms : List ℕ) (k t v : ℕ) → v ≤ get_or ms k 0 → count ms k t ≤ count ms (suc k) (t + v)
count_grows ms k t v l =
    let below = sum_mono (count ms k) (t + v - get_or ms k 0) t (omega arith) in
    let above = sum_mono (count ms k) (t + 1) (t + v + 1) (omega arith) in
    omega (arith, count_window ms k (t + v), sum_step (count ms k) t)
