-- The band: the sums of the first parts from which the total can still be reached, and where their counts stand. Every count there is
-- at most N, so where N is within the limit all of them are.
use Rattle.std.specs.Prelude.{◌≡◌, ℕ, suc, ◌+◌, ◌-◌, ◌<◌, ◌≤◌, min, List, length, slice_index}
use Rattle.walsh.specs.Sums.{sum, sum_to}
use Rattle.walsh.specs.Order.{count}
use Rattle.bounds.specs.Edition.{whole}
use Rattle.band.specs.declared.Row.{Row}

-- ---- the band

-- the first k parts can sum to t, and the others to what t leaves of the total r
pub record InBand (ms : List ℕ) (r k t : ℕ) : Type 0 where
  pub low : r ≤ t + (whole ms - sum_to ms k)
  pub high : t ≤ r
  pub inside : t ≤ sum_to ms k

-- the lowest and the highest such sum, and how many there are
abbrev pub lowest : List ℕ → ℕ → ℕ → ℕ
lowest ms r k = r - (whole ms - sum_to ms k)

abbrev pub highest : List ℕ → ℕ → ℕ → ℕ
highest ms r k = min r (sum_to ms k)

abbrev pub width : List ℕ → ℕ → ℕ → ℕ
width ms r k = suc (highest ms r k) - lowest ms r k

-- ---- the table: the rows for 0, 1, .. , n parts stand one behind the other

-- how many cells stand before row k, and how many there are
abbrev pub row_start : List ℕ → ℕ → ℕ → ℕ
row_start ms r k = sum (width ms r) k

abbrev pub band_size : List ℕ → ℕ → ℕ
band_size ms r = row_start ms r (suc (length ms))

-- the place of the cell for the first k parts and the sum t
abbrev pub cell_index : List ℕ → ℕ → ℕ → ℕ → ℕ
cell_index ms r k t = row_start ms r k + (t - lowest ms r k)

-- one more than the largest N that is accepted
abbrev pub cap : ℕ
cap = 9223372036854775808

-- the cells of row k below the sum u have their counts, which are within the limit
abbrev pub RowHolds : List ℕ → ℕ → List ℕ → ℕ → ℕ → Type 0
RowHolds ms r cells k u = (t : ℕ) → InBand ms r k t → t < u → (slice_index cells (cell_index ms r k t) ≡ count ms k t) × (count ms k t < cap)

-- rows 0 to k have them; a total is at most 255
abbrev pub RowsHold : List ℕ → ℕ → List ℕ → ℕ → Type 0
RowsHold ms r cells k = (j : ℕ) → j ≤ k → RowHolds ms r cells j 256

pub record Band (ms : List ℕ) (r : ℕ) (cells : List ℕ) : Type 0 where
  pub room : band_size ms r ≤ length cells
  pub holds : RowsHold ms r cells (length ms)

-- the code's numbers of row k
pub record IsRow (ms : List ℕ) (r k : ℕ) (row : Row) : Type 0 where
  pub start : row.start ≡ row_start ms r k
  pub left : row.left ≡ sum_to ms k
  pub all : row.all ≡ whole ms
  pub low : row.low ≡ lowest ms r k
  pub high : row.high ≡ highest ms r k

-- the cells counted from the last part down, when k parts are left: the sum that is kept is that of the bounds to the left, and the cells counted are
-- those from row k on
pub record Sizing (ms : List ℕ) (r k left' size' : ℕ) : Type 0 where
  pub few : k ≤ length ms
  pub left : left' ≡ sum_to ms k
  pub size : size' + row_start ms r k ≡ band_size ms r
