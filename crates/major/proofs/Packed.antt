-- Numbers in groups of bits, one above the other: one of them, those from a place on, and one taken from each of some.
use mathlib.Core.Path.{◌≡◌, sym, ap, ◌∙◌}
use Prim.Native.Nat.{ℕ, zero, suc, ◌+◌, ◌-◌, ◌*◌, ◌/◌, ◌%◌, ◌^◌, ◌≤◌, ◌<◌}
use native.Mathlib.Nat.{le_refl, mod-eq_of_lt, add-mul, mul-add}
use native.Mathlib.Decide.{ℕ_discrete}
use native.Mathlib.Omega.{arith}
use lib.Pow.{pow_pos, pow-add, high, low, field, mod-mod-pow}
use lib.Arith.{digits_lt}
use borrow.Author.Tests.{lt-ltb, le-ltb}
use Rattle.walsh.proofs.Lists.{sum_none}
use Rattle.major.specs.Bits.{bits_of}
use Rattle.major.specs.Tally.{packed, from_on}

module _ (b : ℕ) where
  module _ (f : ℕ → ℕ) where
    -- the last stands on top
    pack_suc : (n : ℕ) → packed b f (suc n) ≡ f n * 2 ^ (b * n) + packed b f n
    pack_suc n = omega arith

    pack_lt : (n : ℕ) → ((v : ℕ) → v < n → f v < 2 ^ b) → packed b f n < 2 ^ (b * n)
    pack_lt zero fits = omega (arith, pow_pos (b * 0))
    pack_lt (suc n) fits =
        let more : b * suc n ≡ b + b * n = omega arith in
        rw (more, pow-add 2 b (b * n), pack_suc n) (digits_lt (fits n (le_refl (suc n))) (pack_lt n (λ v h. fits v (omega arith))))

    -- the first j
    pack_mod : (n : ℕ) → ((v : ℕ) → v < n → f v < 2 ^ b) → (j : ℕ) → j ≤ n → packed b f n % 2 ^ (b * j) ≡ packed b f j
    pack_mod zero fits j h =
        let none : j ≡ 0 = omega arith in
        rw none (mod-eq_of_lt (pack_lt 0 fits))
    pack_mod (suc n) fits j h = go (ℕ_discrete j (suc n)) (pack_mod n shorter j)
      where
        shorter : (v : ℕ) → v < n → f v < 2 ^ b
        shorter v l = fits v (omega arith)

        go : Dec (j ≡ suc n) → (j ≤ n → packed b f n % 2 ^ (b * j) ≡ packed b f j) → packed b f (suc n) % 2 ^ (b * j) ≡ packed b f j
        go (yes e) rest = rw e (mod-eq_of_lt (pack_lt (suc n) fits))
        go (no e) rest =
            let d : ℕ = n - j in
            let split : d + j ≡ n = omega arith in
            let apart : b * d + b * j ≡ b * n = sym (mul-add b d j) ∙ ap (λ (m : ℕ). b * m) split in
            sym (mod-mod-pow (packed b f (suc n)) (b * d) (b * j))
            ∙ ap (λ (m : ℕ). packed b f (suc n) % 2 ^ m % 2 ^ (b * j)) apart
            ∙ ap (λ (x : ℕ). x % 2 ^ (b * j)) (ap (λ (x : ℕ). x % 2 ^ (b * n)) (pack_suc n) ∙ low (f n) (b * n) (pack_lt n shorter))
            ∙ rest (omega arith)

    pub pack_at : (n : ℕ) → ((v : ℕ) → v < n → f v < 2 ^ b) → (j : ℕ) → j < n → bits_of (packed b f n) (b * j) b ≡ f j
    pack_at n fits j h =
        let next : b + b * j ≡ b * suc j = omega arith in
        sym (field (packed b f n) b (b * j))
        ∙ ap (λ (m : ℕ). packed b f n % 2 ^ m / 2 ^ (b * j)) next
        ∙ ap (λ (x : ℕ). x / 2 ^ (b * j)) (pack_mod n fits (suc j) h ∙ pack_suc j)
        ∙ high (f j) (b * j) (pack_lt j (λ v l. fits v (omega arith)))

    -- d v taken from f v
    pub pack_less : (d : ℕ → ℕ) (n : ℕ) → ((v : ℕ) → v < n → d v ≤ f v) → packed b (λ v. f v - d v) n + packed b d n ≡ packed b f n
    pack_less d zero some = omega arith
    pack_less d (suc n) some =
        let whole : (f n - d n) + d n ≡ f n = omega (arith, some n (le_refl (suc n))) in
        omega (
          arith,
          pack_less d n (λ v h. some v (omega arith)),
          ap (λ (x : ℕ). x * 2 ^ (b * n)) whole,
          add-mul (f n - d n) (d n) (2 ^ (b * n)),
        )

  -- a 1 at each place: those from place j on
  each_from : (j n : ℕ) → j ≤ n → packed b (from_on j) n + packed b (λ v. 1) j ≡ packed b (λ v. 1) n
  each_from j zero h =
      let none : j ≡ 0 = omega arith in
      rw none
  each_from j (suc n) h = go (ℕ_discrete j (suc n)) (each_from j n)
    where
      none : suc n ≤ j → packed b (from_on j) (suc n) ≡ 0
      none all = sum_none (λ v. from_on j v * 2 ^ (b * v)) (suc n) (λ v l. rw (lt-ltb v j (omega arith)) (omega arith))

      go : Dec (j ≡ suc n) → (j ≤ n → packed b (from_on j) n + packed b (λ v. 1) j ≡ packed b (λ v. 1) n)
          → packed b (from_on j) (suc n) + packed b (λ v. 1) j ≡ packed b (λ v. 1) (suc n)
      go (yes e) rest = omega (arith, none (omega arith), ap (packed b (λ v. 1)) e)
      go (no e) rest = rw (le-ltb n j (omega arith)) (omega (arith, rest (omega arith)))

  pub each_upward : 1 < 2 ^ b → (j n : ℕ) → j ≤ n → packed b (λ v. 1) n - packed b (λ v. 1) n % 2 ^ (b * j) ≡ packed b (from_on j) n
  each_upward one j n h = rw (pack_mod (λ v. 1) n (λ v l. one) j h) (omega (arith, each_from j n h))
