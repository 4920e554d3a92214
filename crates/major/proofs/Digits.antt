-- Groups of bits of a word, of any width: one group cut out, and one put on top.
use mathlib.Core.Path.{◌≡◌, sym, ap, ◌∙◌}
use Prim.Native.Nat.{ℕ, ◌+◌, ◌-◌, ◌*◌, ◌/◌, ◌%◌, ◌^◌, ◌≤◌, ◌<◌}
use native.Mathlib.Nat.{mod-lt, mod-eq_of_lt, add-mul}
use native.Mathlib.Omega.{arith}
use lib.Pow.{pow_pos, pow-add, shr_lt, shr_le, shr-shr, split, high, low, mod-mod-pow, field}
use lib.Arith.{digits_lt}
use Rattle.major.specs.Bits.{bits_of, cut_of}

-- the bits below bit m are those of the rest by 2^m
bits_low : (w m k n : ℕ) → k + n ≤ m → bits_of (w % 2 ^ m) k n ≡ bits_of w k n
bits_low w m k n h =
    let d : ℕ = m - (n + k) in
    let whole : m ≡ d + (n + k) = omega arith in
    sym (field (w % 2 ^ m) n k)
    ∙ ap (λ (x : ℕ). w % 2 ^ x % 2 ^ (n + k) / 2 ^ k) whole
    ∙ ap (λ (x : ℕ). x / 2 ^ k) (mod-mod-pow w d (n + k))
    ∙ field w n k

-- of two words with the same rest
bits_same : (w v m k n : ℕ) → k + n ≤ m → w % 2 ^ m ≡ v % 2 ^ m → bits_of w k n ≡ bits_of v k n
bits_same w v m k n h e = sym (bits_low w m k n h) ∙ ap (λ (x : ℕ). bits_of x k n) e ∙ bits_low v m k n h

-- ---- the n bits from bit k on cut out

module _ (w k n : ℕ) where
  pub cut_before : (a m : ℕ) → a + m ≤ k → bits_of (cut_of w k n) a m ≡ bits_of w a m
  cut_before a m h = bits_same (cut_of w k n) w k a m h (low (w / 2 ^ (k + n)) k (mod-lt w (pow_pos k)))

  pub cut_behind : (a m : ℕ) → k ≤ a → bits_of (cut_of w k n) a m ≡ bits_of w (a + n) m
  cut_behind a m h =
      let d : ℕ = a - k in
      let place : a ≡ k + d = omega arith in
      let further : k + n + d ≡ a + n = omega arith in
      ap (λ (x : ℕ). x % 2 ^ m)
      (ap (λ (x : ℕ). cut_of w k n / 2 ^ x) place
      ∙ sym (shr-shr (cut_of w k n) k d)
      ∙ ap (λ (x : ℕ). x / 2 ^ d) (high (w / 2 ^ (k + n)) k (mod-lt w (pow_pos k)))
      ∙ shr-shr w (k + n) d
      ∙ ap (λ (x : ℕ). w / 2 ^ x) further)

  -- what goes: the bits behind, less those that come back n bits lower
  pub cut_less : (w / 2 ^ k / 2 ^ n ≤ w / 2 ^ k) × (cut_of w k n + (w / 2 ^ k - w / 2 ^ k / 2 ^ n) * 2 ^ k ≡ w)
  cut_less =
      let rest : ℕ = w / 2 ^ k in
      let few : rest / 2 ^ n ≤ rest = shr_le rest n in
      let whole : (rest - rest / 2 ^ n) + rest / 2 ^ n ≡ rest = omega arith in (
        few,
        rw (← (shr-shr w k n))
            (omega (arith, ap (λ (x : ℕ). x * 2 ^ k) whole, add-mul (rest - rest / 2 ^ n) (rest / 2 ^ n) (2 ^ k), split w k)),
      )

  -- a word of m + n bits has m left
  pub cut_lt : (m : ℕ) → k ≤ m → w < 2 ^ (m + n) → cut_of w k n < 2 ^ m
  cut_lt m h b =
      let d : ℕ = m - k in
      let room : m + n ≡ d + (k + n) = omega arith in
      let kept : d + k ≡ m = omega arith in
      let few : w / 2 ^ (k + n) < 2 ^ d = shr_lt d (k + n) (rw (ap (λ (x : ℕ). 2 ^ x) room) at b) in
      rw (← kept, pow-add 2 d k) (digits_lt few (mod-lt w (pow_pos k)))

-- ---- a group v on top of m bits

module _ (v m : ℕ) {w : ℕ} (h : w < 2 ^ m) where
  pub top_before : (a n : ℕ) → a + n ≤ m → bits_of (v * 2 ^ m + w) a n ≡ bits_of w a n
  top_before a n b = bits_same (v * 2 ^ m + w) w m a n b (low v m h ∙ sym (mod-eq_of_lt h))

  pub top_at : (n : ℕ) → v < 2 ^ n → bits_of (v * 2 ^ m + w) m n ≡ v
  top_at n b = ap (λ (x : ℕ). x % 2 ^ n) (high v m h) ∙ mod-eq_of_lt b
