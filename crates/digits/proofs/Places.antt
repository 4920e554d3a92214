-- The digits of a number and what stands from each place on.
use mathlib.Core.Path.{◌≡◌, refl, sym, ap, ◌∙◌}
use Prim.Native.Nat.{ℕ, zero, suc, ◌+◌, ◌*◌, ◌/◌, ◌%◌, ◌^◌, ◌<◌}
use native.Mathlib.Nat.{add-mul, mul-add, mul_assoc, mul_comm, mul_left_comm, pow-succ', mod-add-div, div-div-eq-div-mul, add-mul-mod_self_left}
use native.Mathlib.Omega.{arith}
use Rattle.walsh.specs.Sums.{sum}
use Rattle.digits.specs.Digits.{digit_at, weight_at, places, weighted_sum}

-- ---- up to tens what stands from a place on is its digit

weighted_tens : (w x : ℕ) → w * x % 10 ≡ w * (x % 10) % 10
weighted_tens w x =
    let parts = mul-add w (x % 10) (10 * (x / 10)) ∙ ap (λ (y : ℕ). w * (x % 10) + y) (mul_left_comm w 10 (x / 10)) in
    ap (λ (y : ℕ). y % 10) (ap (λ (y : ℕ). w * y) (sym (mod-add-div x 10)) ∙ parts) ∙ add-mul-mod_self_left (w * (x % 10)) 10 (w * (x / 10))

sum_tens : (f g : ℕ → ℕ) (n : ℕ) → ((k : ℕ) → f k % 10 ≡ g k % 10) → sum f n % 10 ≡ sum g n % 10
sum_tens f g zero e = refl
sum_tens f g (suc n) e = omega (arith, sum_tens f g n e, e n)

pub quotients : (n : ℕ) → sum (λ k. weight_at k * (n / 10 ^ k)) places % 10 ≡ weighted_sum n % 10
unfolding weighted_sum
quotients n = sum_tens (λ k. weight_at k * (n / 10 ^ k)) (λ k. weight_at k * digit_at n k) places (λ k. weighted_tens (weight_at k) (n / 10 ^ k))

-- ---- the digits are those of the number

-- what stands from place k on is its digit and ten times what stands from the next on
from_next : (n k : ℕ) → n / 10 ^ k ≡ digit_at n k + 10 * (n / 10 ^ suc k)
from_next n k =
    let e : n / 10 ^ k / 10 ≡ n / 10 ^ suc k = div-div-eq-div-mul n (10 ^ k) 10 ∙ ap (λ (b : ℕ). n / b) (omega arith) in
    omega (arith, e)

first_places : (n k : ℕ) → n ≡ sum (λ j. digit_at n j * 10 ^ j) k + n / 10 ^ k * 10 ^ k
first_places n zero = omega arith
first_places n (suc k) =
    let tens : 10 * (n / 10 ^ suc k) * 10 ^ k ≡ n / 10 ^ suc k * 10 ^ suc k =
    ap (λ (y : ℕ). y * 10 ^ k) (mul_comm 10 (n / 10 ^ suc k)) ∙ mul_assoc (n / 10 ^ suc k) 10 (10 ^ k) ∙ ap (λ (y : ℕ). n / 10 ^ suc k * y) (sym (pow-succ' 10 k)) in
    let next = ap (λ (q : ℕ). q * 10 ^ k) (from_next n k) ∙ add-mul (digit_at n k) (10 * (n / 10 ^ suc k)) (10 ^ k) in
    first_places n k ∙ omega (arith, next, tens)

-- ten places are all, where a number has 32 bits
pub all_digits : (n : ℕ) → n < 2 ^ 32 → n ≡ sum (λ k. digit_at n k * 10 ^ k) places
all_digits n h = let none : n / 10 ^ places ≡ 0 = omega arith in first_places n places ∙ omega (arith, none)
