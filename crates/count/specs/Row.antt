-- How N is counted in one row of cells, a cell for each sum: the row of one part more is written over it from its highest sum down.
use Rattle.std.specs.Prelude.{◌≡◌, Bool, true, false, List, ℕ, ◌+◌, ◌≤◌, ◌<◌, min, max, ltb, length, get_or}
use Rattle.walsh.specs.Order.{count}
use Rattle.bounds.specs.Refusal.{first_refusal}
use Rattle.bounds.specs.Edition.{whole, shape_checks}
use Rattle.band.specs.Band.{InBand, lowest, highest, cap}
use Rattle.band.specs.Window.{Slid}
use Rattle.count.specs.declared.row.Ends.{Ends}
use Rattle.count.specs.declared.row.Stretches.{Stretches}

-- a shape that is accepted, and the sum of its bounds
pub record Shaped (ms : List ℕ) (r all : ℕ) : Type 0 where
  pub accepted : (first_refusal (shape_checks ms r)).number ≡ 0
  pub all_is : all ≡ whole ms

-- the code's numbers of row k
pub record IsEnds (ms : List ℕ) (r k : ℕ) (e : Ends) : Type 0 where
  pub low : e.low ≡ lowest ms r k
  pub high : e.high ≡ highest ms r k

-- what does not change while row k + 1 is written over row k; m is the bound of part k
pub record Passing (ms : List ℕ) (r k m : ℕ) (row next : Ends) : Type 0 where
  pub given : k < length ms
  pub small : r ≤ 255
  pub reached : r ≤ whole ms
  pub bound : m ≡ get_or ms k 0
  pub narrow : m ≤ 255
  pub from : IsEnds ms r k row
  pub to : IsEnds ms r (k + 1) next

-- the cells of the sums of row k from a on and below b have their counts, which are within the limit
abbrev pub RowCounts : List ℕ → ℕ → List ℕ → ℕ → ℕ → ℕ → Type 0
RowCounts ms r cells k a b = (t : ℕ) → InBand ms r k t → a ≤ t → t < b → (get_or cells t 0 ≡ count ms k t) × (count ms k t < cap)

-- every count of the first k parts for a sum up to q is within the limit
abbrev pub UpTo : List ℕ → ℕ → ℕ → Type 0
UpTo ms q k = (t : ℕ) → t ≤ q → count ms k t < cap

-- every count of row k of the band is
abbrev pub Within : List ℕ → ℕ → ℕ → Type 0
Within ms r k = (t : ℕ) → InBand ms r k t → count ms k t < cap

-- row k + 1 stands from the sum t on, row k below it, and w is the window for the sum before t
pub record Passed (ms : List ℕ) (r k t w : ℕ) (cells : List ℕ) : Type 0 where
  pub long : length cells ≡ 256
  pub below : RowCounts ms r cells k 0 t
  pub above : RowCounts ms r cells (k + 1) t 256
  pub window : Slid ms r k t w
  pub small : w < cap

-- as the window leaves the sum t, the cell at its low end enters it, or none does
pub record Enters (row : Ends) (m t : ℕ) (enters : Bool) : Type 0 where
  pub entering : enters ≡ true → row.low + m < t
  pub staying : enters ≡ false → t ≤ row.low + m

-- and the cell at t leaves it, or there is none
pub record Leaves (row : Ends) (t : ℕ) (leaves : Bool) : Type 0 where
  pub leaving : leaves ≡ true → t ≤ row.high
  pub passed : leaves ≡ false → row.high < t

-- w is the window for the sum before t, and within the limit where the row after or N is
pub record Moved (ms : List ℕ) (r k t w : ℕ) : Type 0 where
  pub slid : Slid ms r k t w
  pub within : Within ms r (k + 1) → w < cap
  pub over : cap ≤ w → cap ≤ count ms (length ms) r

-- so at each sum of a stretch of row k + 1, from `from` down to `end`
pub record Stretch (row next : Ends) (m from end : ℕ) (enters leaves : Bool) : Type 0 where
  pub low : next.low ≤ end
  pub high : from ≤ next.high + 1
  pub entering : (t : ℕ) → end ≤ t → t < from → Enters row m t enters
  pub leaving : (t : ℕ) → end ≤ t → t < from → Leaves row t leaves

-- a cell leaves the window up to the highest sum of the row before, and one enters it past the lowest and the bound: the code's numbers of the three
-- stretches, past both, between the two, and up to both
pub record IsStretches (row next : Ends) (m : ℕ) (s : Stretches) : Type 0 where
  pub from : s.from ≡ next.high + 1
  pub first : s.first ≡ max row.high (row.low + m) + 1
  pub second : s.second ≡ max next.low (min row.high (row.low + m) + 1)
  pub both : s.both ≡ ltb (row.low + m) row.high
