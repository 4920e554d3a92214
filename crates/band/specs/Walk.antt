-- The walks over the band, from the last part down: what is kept from part to part, and what is known at a part.
use Rattle.std.specs.Prelude.{◌≡◌, ℕ, suc, ◌+◌, ◌-◌, ◌<◌, ◌≤◌, List, [], ◌++◌, length, get_or, drop, slice_index_or}
use Rattle.walsh.specs.Sums.{sum, sum_to}
use Rattle.walsh.specs.Order.{CompositionTo, count, least, most, is_odd, value_at, listing, order}
use Rattle.walsh.specs.Rank.{part_index, block_size, rank_of}
use Rattle.bounds.specs.Edition.{whole}
use Rattle.band.specs.Band.{InBand, IsRow, Band}
use Rattle.band.specs.declared.Row.{Row}
use Rattle.band.specs.declared.walk.Run.{Run}

-- ---- document 01: "Serial to mix works from the last kind down". What holds in both directions whenever k parts are left to do

pub record Walks (ms : List ℕ) (r k rem t : ℕ) (row' : Row) : Type 0 where
  pub few : k ≤ length ms
  -- document 02, request (iv): the sum that is kept, from which a bound has come off for each part that is done, is that of the bounds to the left
  pub left : row'.left ≡ sum_to ms k
  -- the parts that are done, those to the right, sum to t, and rem is left of the total
  pub sum : t + rem ≡ r
  pub row : IsRow ms r k row'
  pub band : InBand ms r k rem

-- from a rank to its composition: the parts of `out` from k on are those of the entry that has this rank in the order, and before them stands what
-- has the rank s, which is kept, among all that the first k parts can be there
pub record Written (ms : List ℕ) (r rank k rem t s : ℕ) (row : Row) (out : List ℕ) : Type 0 where
  pub walks : Walks ms r k rem t row
  pub inside : s < count ms k rem
  pub entry : get_or (listing ms k rem t) s [] ++ drop k out ≡ slice_index_or (order ms r) rank []

-- from a composition to its rank: the s that is kept and the rank among all that the first k parts can be there make the rank
pub record Placed (ms : List ℕ) (r : ℕ) (g : List ℕ) (k rem t s : ℕ) (row : Row) : Type 0 where
  pub walks : Walks ms r k rem t row
  pub parts : CompositionTo ms k rem g
  pub rank : s + rank_of ms k rem t g ≡ rank_of ms (length ms) r 0 g

-- ---- at one part

-- the values of part k where rem is left for it and the parts to its left, and the parts to its right sum to t
unfoldable pub run_of : List ℕ → ℕ → ℕ → ℕ → Run
run_of ms k rem t = record { low = least ms k rem; high = most ms k rem; falls = is_odd t }

-- value number i of a run
unfoldable pub in_run : Run → ℕ → ℕ
in_run w i = value_at w.low w.high w.falls i

-- the walk stands at part k: the row of the parts to its left, and a filled table for the total t + rem
pub record Here (ms : List ℕ) (k rem t : ℕ) (row' : Row) (cells : List ℕ) : Type 0 where
  pub inside : k < length ms
  pub few : k < 24
  pub small : t + rem ≤ 255
  pub row : IsRow ms (t + rem) k row'
  pub band : InBand ms (t + rem) (suc k) rem
  pub table : Band ms (t + rem) cells

-- the cells of what the values of a run leave of rem stand in the table
pub record Readable (w : Run) (rem : ℕ) (row : Row) (cells : List ℕ) : Type 0 where
  pub small : rem ≤ 255
  pub high : w.high ≤ rem
  pub low : row.low ≤ rem - w.high
  pub start : row.start ≤ 6144
  pub room : row.start + (rem - w.low - row.low) < length cells

-- rank p falls in the block of value v, at place s
pub record Picked (ms : List ℕ) (k rem t p v s : ℕ) : Type 0 where
  pub low : least ms k rem ≤ v
  pub high : v ≤ most ms k rem
  pub inside : s < count ms k (rem - v)
  pub is : p ≡ sum (block_size ms k rem t) (part_index ms k rem t v) + s

-- the walk can begin: the row of all parts, and a filled table
pub record Filled (ms : List ℕ) (r : ℕ) (last : Row) (cells : List ℕ) : Type 0 where
  pub few : length ms ≤ 24
  pub small : r ≤ 255
  pub reached : r ≤ whole ms
  pub row : IsRow ms r (length ms) last
  pub table : Band ms r cells
