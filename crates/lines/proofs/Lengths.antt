-- Decimals two digits at a time, and how long decimals and lines are.
use mathlib.Core.Path.{◌≡◌, ap, ◌∙◌}
use mathlib.Core.List.{[], ◌∷◌, ◌++◌, append_assoc}
use Prim.Native.Nat.{ℕ, zero, suc, ◌+◌, ◌*◌, ◌/◌, ◌%◌, ◌^◌, max, ◌≤◌, ◌<◌}
use native.Mathlib.Omega.{arith}
use lib.ListN.{length, length-append}
use Rattle.walsh.proofs.Cases.{on_less}
use Rattle.request.specs.Text.{decimal}
use Rattle.request.proofs.Decimals.{decimal_small, decimal_more}
use Rattle.lines.specs.Append.{two_digits}

pub decimal_two : (n : ℕ) → 10 ≤ n → n < 100 → decimal n ≡ two_digits n
decimal_two n h l = decimal_more n h ∙ rw (decimal_small (n / 10) (omega arith))

decimal_hundred : (n : ℕ) → 100 ≤ n → decimal n ≡ decimal (n / 100) ++ two_digits (n % 100)
decimal_hundred n h =
    let q : n / 10 / 10 ≡ n / 100 = omega arith in
    let d : n / 10 % 10 ≡ n % 100 / 10 = omega arith in
    let m : n % 10 ≡ n % 100 % 10 = omega arith in
    decimal_more n (omega arith)
    ∙ rw (decimal_more (n / 10) (omega arith), q, d, m) (append_assoc (decimal (n / 100)) ((48 + n % 100 / 10) ∷ []) ((48 + n % 100 % 10) ∷ []))

pub decimal_myriad : (n : ℕ) → 10000 ≤ n → decimal n ≡ decimal (n / 10000) ++ (two_digits (n / 100 % 100) ++ two_digits (n % 100))
decimal_myriad n h =
    let q : n / 100 / 100 ≡ n / 10000 = omega arith in
    decimal_hundred n (omega arith)
    ∙ rw (decimal_hundred (n / 100) (omega arith), q) (append_assoc (decimal (n / 10000)) (two_digits (n / 100 % 100)) (two_digits (n % 100)))

-- ---- how long a decimal is

pub length_small : (n : ℕ) → n < 10 → length (decimal n) ≡ 1
length_small n h = ap length (decimal_small n h)

pub length_more : (n : ℕ) → 10 ≤ n → length (decimal n) ≡ length (decimal (n / 10)) + 1
length_more n h = ap length (decimal_more n h) ∙ length-append (decimal (n / 10)) ((48 + n % 10) ∷ [])

pub length_two : (n : ℕ) → 10 ≤ n → n < 100 → length (decimal n) ≡ 2
length_two n h l = ap length (decimal_two n h l)

pub length_myriad : (n : ℕ) → 10000 ≤ n → length (decimal n) ≡ length (decimal (n / 10000)) + 4
length_myriad n h =
    ap length (decimal_myriad n h) ∙ length-append (decimal (n / 10000)) (two_digits (n / 100 % 100) ++ two_digits (n % 100))

-- a number below 10 * 10^k has at most k + 1 digits
pub length_decimal : (k n : ℕ) → n < 10 * 10 ^ k → length (decimal n) ≤ suc k
length_decimal zero n h = omega (arith, length_small n (omega arith))
length_decimal (suc k) n h = go (length_decimal k (n / 10))
  where
    go : (n / 10 < 10 * 10 ^ k → length (decimal (n / 10)) ≤ suc k) → length (decimal n) ≤ suc (suc k)
    go below = on_less n 10 (λ l _. omega (arith, length_small n l)) (λ l _. omega (arith, length_more n l, below (omega arith)))

one_power : (k : ℕ) → 1 ≤ 10 ^ k
one_power zero = omega arith
one_power (suc k) = omega (arith, one_power k)

-- a number from 10^k on, or 0 where k is 0, and below 10 * 10^k has k + 1 digits
pub length_power : (k n : ℕ) → 10 ^ k ≤ max n 1 → n < 10 * 10 ^ k → length (decimal n) ≡ suc k
length_power zero n l h = length_small n (omega arith)
length_power (suc k) n l h = go (length_power k (n / 10))
  where
    go : (10 ^ k ≤ max (n / 10) 1 → n / 10 < 10 * 10 ^ k → length (decimal (n / 10)) ≡ suc k) → length (decimal n) ≡ suc (suc k)
    go below =
        let many : 10 ≤ n = omega (arith, one_power k) in
        omega (arith, length_more n many, below (omega arith) (omega arith))

pub length_serial : (n : ℕ) → n < 18446744073709551616 → length (decimal n) ≤ 20
length_serial n h = length_decimal 19 n (omega arith)

pub length_byte : (n : ℕ) → n < 256 → length (decimal n) ≤ 3
length_byte n h = length_decimal 2 n (omega arith)

pub length_some : (n : ℕ) → 1 ≤ length (decimal n)
length_some n = on_less n 10 (λ l _. omega (arith, length_small n l)) (λ l _. omega (arith, length_more n l))
