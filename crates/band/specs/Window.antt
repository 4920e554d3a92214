-- How a row of the band is filled from the row before: by a window that slides along it.
use Rattle.std.specs.Prelude.{◌≡◌, ℕ, ◌+◌, ◌-◌, ◌<◌, ◌≤◌, max, Bool, true, false, List, length, slice_index}
use Rattle.walsh.specs.Sums.{sum}
use Rattle.walsh.specs.Order.{count}
use Rattle.bounds.specs.Edition.{whole}
use Rattle.band.specs.Band.{lowest, cap, RowHolds, RowsHold, IsRow}
use Rattle.band.specs.declared.Row.{Row}
use Rattle.band.specs.declared.window.Span.{Span}
use Rattle.band.specs.declared.window.Stretches.{Stretches}

-- what does not change while row k + 1 is filled from row k, over the part whose bound is m
pub record Filling (ms : List ℕ) (r k m : ℕ) (row next : Row) : Type 0 where
  pub part : k < length ms
  pub few : k < 24
  pub small : r ≤ 255
  pub reached : r ≤ whole ms
  pub bound : m ≡ slice_index ms k
  pub byte : m ≤ 255
  pub from : IsRow ms r k row
  pub to : IsRow ms r (k + 1) next

-- before the sum t: w is the sum of the cells t - 1, t - 2, .. of row k, as many as the bound and one, but none below the band
abbrev pub Slid : List ℕ → ℕ → ℕ → ℕ → ℕ → Type 0
Slid ms r k t w = w + sum (count ms k) (max (lowest ms r k) (t - (slice_index ms k + 1))) ≡ sum (count ms k) t

-- rows 0 to k are filled, row k + 1 is up to the sum t, and w is the window there
pub record FilledTo (ms : List ℕ) (r k t w : ℕ) (cells : List ℕ) : Type 0 where
  pub rows : RowsHold ms r cells k
  pub row : RowHolds ms r cells (k + 1) t
  pub window : Slid ms r k t w
  pub small : w < cap

-- at the sum t a cell of row k enters the window, or none does, and one leaves it, or none does
pub record Moves (row : Row) (m t : ℕ) (enters leaves : Bool) : Type 0 where
  pub entering : enters ≡ true → t ≤ row.high
  pub passed : enters ≡ false → row.high < t
  pub leaving : leaves ≡ true → row.low + m < t
  pub staying : leaves ≡ false → t ≤ row.low + m

-- so at each sum of a part of row k + 1
pub record Stretch (row next : Row) (m : ℕ) (span : Span) : Type 0 where
  pub low : next.low ≤ span.from
  pub rising : span.from ≤ span.end
  pub high : span.end ≤ next.high + 1
  pub moves : (t : ℕ) → span.from ≤ t → t < span.end → Moves row m t span.enters span.leaves

-- row k + 1 in three such parts, one behind the other
pub record IsStretches (row next : Row) (m : ℕ) (s : Stretches) : Type 0 where
  pub from : s.grows.from ≡ next.low
  pub middle : s.slides.from ≡ s.grows.end
  pub last : s.shrinks.from ≡ s.slides.end
  pub end : s.shrinks.end ≡ next.high + 1
  pub grows : Stretch row next m s.grows
  pub slides : Stretch row next m s.slides
  pub shrinks : Stretch row next m s.shrinks
