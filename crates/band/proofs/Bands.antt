-- Laws of the band: every count there is at most N, what leaves a sum of the band, and the places of its cells.
use Rattle.std.proofs.Common.{◌≡◌, ℕ, zero, suc, ◌+◌, ◌-◌, ◌*◌, ◌<◌, ◌≤◌, min, List, length, get_or, add-one, arith}
use Rattle.walsh.specs.Sums.{sum_to}
use Rattle.walsh.specs.Order.{count, least, most, is_odd, part_value, part_choices}
use Rattle.walsh.proofs.Lists.{sum_mono, sum_to_mono, value_low, value_high}
use Rattle.walsh.proofs.Window.{count_grows}
use Rattle.bounds.specs.Edition.{whole}
use Rattle.band.specs.Band.{InBand, lowest, highest, width, row_start, band_size, cell_index}

module _ (ms : List ℕ) (r : ℕ) where
  -- the next part takes as much as it can of what is missing
  band_up : (k t : ℕ) → k < length ms → InBand ms r k t → InBand ms r (suc k) (t + min (get_or ms k 0) (r - t))
  band_up k t l b =
      let m = sum_to_mono ms (suc k) (length ms) l in
      record { low = omega (arith, b.low, b.high); high = omega (arith, b.high); inside = omega (arith, b.inside) }

  band_whole : (t : ℕ) → InBand ms r (length ms) t → t ≡ r
  band_whole t b = omega (arith, b.low, b.high)

  -- every number of the band is at most the number of compositions of the whole
  band_grows : (d k t : ℕ) → k + d ≡ length ms → InBand ms r k t → count ms k t ≤ count ms (length ms) r
  band_grows zero k t e b =
      let ek : k ≡ length ms = omega arith in
      let b' : InBand ms r (length ms) t = rw ek at b in
      rw (ek, band_whole t b') (omega arith)
  band_grows (suc d) k t e b =
      let v = min (get_or ms k 0) (r - t) in
      omega (arith, count_grows ms k t v (omega arith), band_grows d (suc k) (t + v) (omega arith) (band_up k t (omega arith) b))

  pub band_most : (k t : ℕ) → k ≤ length ms → InBand ms r k t → count ms k t ≤ count ms (length ms) r
  band_most k t l b = band_grows (length ms - k) k t (omega arith) b

  -- what a value of part k leaves is in the band again
  pub band_down : (k rem v : ℕ) → k < length ms → InBand ms r (suc k) rem → rem - sum_to ms k ≤ v → v ≤ min (get_or ms k 0) rem → InBand ms r k (rem - v)
  band_down k rem v l b low high =
      let m = sum_to_mono ms (suc k) (length ms) l in
      record { low = omega (arith, b.low, b.high); high = omega (arith, b.high); inside = omega arith }

  -- and so is what each of its values in the order leaves
  pub band_value : (k rem t i : ℕ) → k < length ms → InBand ms r (suc k) rem → i < part_choices ms k rem → InBand ms r k (rem - part_value ms k rem t i)
  band_value k rem t i l b h =
      band_down k rem (part_value ms k rem t i) l b (value_low (least ms k rem) (most ms k rem) (is_odd t) i h)
      (value_high (least ms k rem) (most ms k rem) (is_odd t) i h)

  pub band_ends : (k t : ℕ) → lowest ms r k ≤ t → t ≤ highest ms r k → InBand ms r k t
  band_ends k t l h = record { low = omega arith; high = omega arith; inside = omega arith }

  -- ---- places

  pub start_small : r ≤ 255 → (k : ℕ) → row_start ms r k ≤ 256 * k
  start_small s zero = omega arith
  start_small s (suc k) = omega (arith, start_small s k)

  -- a cell of the band stands in its row
  pub cell_lt : (k t : ℕ) → InBand ms r k t → cell_index ms r k t < row_start ms r (suc k)
  cell_lt k t b = omega (arith, b.low, b.high, b.inside)

  pub cell_room : (k t : ℕ) → k ≤ length ms → InBand ms r k t → cell_index ms r k t < band_size ms r
  cell_room k t l b = omega (arith, cell_lt k t b, sum_mono (width ms r) (suc k) (suc (length ms)) (omega arith))

  pub cell_earlier : (j k t u : ℕ) → j < k → InBand ms r j t → cell_index ms r j t < cell_index ms r k u
  cell_earlier j k t u l b = omega (arith, cell_lt j t b, sum_mono (width ms r) (suc j) k l)

  pub cell_differs : (k t u : ℕ) → InBand ms r k t → InBand ms r k u → t < u → cell_index ms r k t < cell_index ms r k u
  cell_differs k t u b b' l = omega (arith, b.low)

-- the band's low end does not fall, and is at most its high end
pub low_high : (ms : List ℕ) (r k : ℕ) → r ≤ whole ms → k < length ms
    → (lowest ms r (k + 1) ≤ highest ms r (k + 1)) × (lowest ms r k ≤ lowest ms r (k + 1))
low_high ms r k reach l =
    let m = sum_to_mono ms (suc k) (length ms) l in
    rw add-one (omega (arith, m), omega arith)

pub whole_band : (ms : List ℕ) (r : ℕ) → r ≤ whole ms → InBand ms r (length ms) r
whole_band ms r reach = record { low = omega arith; high = omega arith; inside = reach }

-- and rises by no more than the bound
pub low_next : (ms : List ℕ) (r k : ℕ) → k < length ms → lowest ms r (k + 1) ≤ lowest ms r k + get_or ms k 0
low_next ms r k l = rw add-one (go (whole ms) (sum_to ms k) (get_or ms k 0) (sum_to_mono ms (suc k) (length ms) l))
  where
    go : (n a m : ℕ) → a + m ≤ n → r - (n - (a + m)) ≤ r - (n - a) + m
    go n a m l = omega arith
