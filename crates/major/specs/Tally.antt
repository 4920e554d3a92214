-- How the code keeps, for each v up to 25, how many of the sheets that are left are at most v. No public contract cites this file.
use Rattle.std.specs.Prelude.{◌≡◌, refl, cond, ℕ, ◌+◌, ◌-◌, ◌*◌, ◌^◌, ◌≤◌, ◌<◌, ltb}
use Rattle.walsh.specs.Sums.{sum}
use Rattle.major.specs.declared.tally.Tally.{Tally}

-- f 0, .. , f (n - 1) as one number, in b bits each
abbrev pub packed : ℕ → (ℕ → ℕ) → ℕ → ℕ
packed b f n = sum (λ v. f v * 2 ^ (b * v)) n

-- f v are at most v: in 4 bits for v below 16, in 5 bits for the others
pub record Tallies (tally : Tally) (f : ℕ → ℕ) : Type 0 where
  pub low : tally.low ≡ packed 4 f 16
  pub high : tally.high ≡ packed 5 (λ v. f (16 + v)) 10
  pub low_fits : (v : ℕ) → v < 16 → f v < 16
  pub high_fits : (v : ℕ) → v < 10 → f (16 + v) < 32

-- 1 from x on
abbrev pub from_on : ℕ → ℕ → ℕ
from_on x v = cond (ltb v x) 0 1

-- without the sheet x there is one fewer from x on
abbrev pub fewer : ℕ → (ℕ → ℕ) → ℕ → ℕ
fewer x f v = f v - from_on x v

-- there is a sheet up to each v from x on, so that x can be taken out
pub record Among (tally : Tally) (x : ℕ) (f : ℕ → ℕ) : Type 0 where
  pub tallies : Tallies tally f
  pub some : (v : ℕ) → from_on x v ≤ f v

-- of the sheets 1..4 without 2, none, 1, 1, 2 and 3 are at most 0..4
the_digits : packed 4 (fewer 2 (λ v. v)) 5 ≡ 3 * 16 ^ 4 + 2 * 16 ^ 3 + 16 ^ 2 + 16
the_digits = refl
