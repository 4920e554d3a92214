-- Laws of plain numbers that several proofs of `band` and `count` need.
use Rattle.std.proofs.Common.{◌≡◌, ℕ, suc, ◌+◌, ◌-◌, ◌<◌, ◌≤◌, true, false, sym, arith, w64, Fits}
use mathlib.Core.Bool.{false≢true}
use Rattle.band.specs.Band.{cap}

-- ---- a number and the next one

pub suc_le : {a b : ℕ} → a < b → a + 1 ≤ b
suc_le l = omega arith

pub le_suc : {a b : ℕ} → a ≤ b → a ≤ b + 1
le_suc l = omega arith

pub suc_mono : {a b : ℕ} → a ≤ b → a + 1 ≤ b + 1
suc_mono l = omega arith

pub le_last : {t end high : ℕ} → t < end → end ≤ high + 1 → t ≤ high
le_last l h = omega arith

pub suc_pred : {k : ℕ} → 0 < k → k ≡ suc (k - 1)
suc_pred l = omega arith

pub below_256 : {n : ℕ} → n ≤ 255 → n < 256
below_256 l = omega arith

-- ---- the limit

pub lt_cap : {w : ℕ} → w ≤ 9223372036854775807 → w < cap
lt_cap l = omega arith

-- ---- what fits in 64 bits

pub fits_behind : (low m t n : ℕ) → low + m < t → t ≤ n → n ≤ 255 → Fits w64 (m + 1) × (m + 1 ≤ t)
fits_behind low m t n a b d = (omega arith, omega arith)

-- ---- a test has one answer

pub no : {G : Type 0} → true ≡ false → G
no e = absurd (false≢true (sym e))

pub no' : {G : Type 0} → false ≡ true → G
no' e = absurd (false≢true e)
