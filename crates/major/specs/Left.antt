-- How the code keeps the sheets that are left, in rising order. No public contract cites this file.
use Rattle.std.specs.Prelude.{◌≡◌, refl, cond, List, ℕ, ◌+◌, ◌-◌, ◌*◌, ◌^◌, ◌≤◌, ◌<◌, ltb, length, get_or}
use Rattle.major.specs.declared.left.Left.{Left}
use Rattle.major.specs.Bits.{bits_of}

-- the sheet at place j. From place 12 on the sheets are 13 at least, and are kept less 13.
abbrev pub entry_at : Left → ℕ → ℕ
entry_at left j = cond (ltb j 12) (bits_of left.low (5 * j) 5) (bits_of left.high (4 * (j - 12)) 4 + 13)

-- the sheets l are left, each at its place. Behind the last one anything may stand, but `low` has no bit past its 12 places.
pub record Holds (left : Left) (l : List ℕ) : Type 0 where
  pub few : length l ≤ 25
  pub small : left.low < 2 ^ 60
  pub entries : (j : ℕ) → j < length l → entry_at left j ≡ get_or l j 0

-- 23 at the last place of `low`, and 16 at the first of `high`
the_last_low : entry_at (record { low = 23 * 2 ^ 55; high = 0 }) 11 ≡ 23
the_last_low = refl

the_first_high : entry_at (record { low = 0; high = 9 * 16 + 3 }) 12 ≡ 16
the_first_high = refl
