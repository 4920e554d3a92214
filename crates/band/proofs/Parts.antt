-- Laws of one turn of a walk, from the last part down.
use Rattle.std.proofs.Common.{◌≡◌, ℕ, suc, ◌+◌, ◌-◌, ◌<◌, ◌≤◌, List, length, get_or, refl, le_refl, lt_of_lt_of_le, le_of_lt, zero-add, add-one, arith}
use Rattle.walsh.specs.Sums.{sum}
use Rattle.walsh.specs.Order.{CompositionTo, least, most}
use Rattle.walsh.specs.Rank.{part_index, block_size, rank_of}
use Rattle.walsh.proofs.Complete.{composition_low, composition_high, composition_prefix, rank_lt}
use Rattle.walsh.proofs.Listing.{length_listing}
use Rattle.bounds.specs.Edition.{whole}
use Rattle.band.specs.Band.{InBand, IsRow, cap}
use Rattle.band.specs.declared.Row.{Row}
use Rattle.band.proofs.Bands.{whole_band, band_down}
use Rattle.band.specs.Walk.{Walks, Here, Filled}

-- ---- one turn, from row k to row k - 1

module _ (ms : List ℕ) (r : ℕ) (last : Row) (cells : List ℕ) (filled : Filled ms r last cells) where
  pub walk_starts : (n : ℕ) → n ≡ length ms → Walks ms r n r 0 last
  walk_starts n e =
      rw e (record { few = le_refl _; left = filled.row.left; sum = zero-add r; row = filled.row; band = whole_band ms r filled.reached })

  module _ (k rem t : ℕ) (row : Row) (walks : Walks ms r k rem t row) (some : 0 < k) where
    up : k ≡ suc (k - 1)
    up = omega arith

    inside : k - 1 < length ms
    inside = omega (arith, walks.few)

    above : InBand ms r (suc (k - 1)) rem
    above = rw (← up) walks.band

    -- `down` may be called
    pub turn_down : (r ≤ 255) × (r ≤ whole ms) × (k - 1 < length ms) × IsRow ms r (k - 1 + 1) row
    turn_down = (filled.small, filled.reached, inside, rw (add-one, ← up) walks.row)

    module _ (to : Row) (row_is : IsRow ms r (k - 1) to) where
      pub turn_here : Here ms (k - 1) rem t to cells
      turn_here =
          record {
            inside = inside;
            few = lt_of_lt_of_le inside filled.few;
            small = rw walks.sum filled.small;
            row = rw walks.sum row_is;
            band = rw walks.sum above;
            table = rw walks.sum filled.table;
          }

      pub turn_next : (v : ℕ) → least ms (k - 1) rem ≤ v → v ≤ most ms (k - 1) rem → Walks ms r (k - 1) (rem - v) (t + v) to
      turn_next v low high =
          record {
            few = le_of_lt inside;
            left = row_is.left;
            sum = omega (arith, walks.sum);
            row = row_is;
            band = band_down ms r (k - 1) rem v inside above low high;
          }

-- ---- the part of a composition that is ranked

-- what the walk needs of part k of g, which has the value v there
pub record Part (ms g : List ℕ) (k k' rem t v : ℕ) : Type 0 where
  pub low : least ms k rem ≤ v
  pub high : v ≤ most ms k rem
  pub down : CompositionTo ms k (rem - v) g
  pub rank : rank_of ms k' rem t g ≡ sum (block_size ms k rem t) (part_index ms k rem t v) + rank_of ms k (rem - v) (t + v) g

pub part : (ms g : List ℕ) (k k' rem t v : ℕ) → k' ≡ suc k → CompositionTo ms k' rem g → v ≡ get_or g k 0 → Part ms g k k' rem t v
unfolding rank_of
part ms g k k' rem t v e f ev =
    let f' : CompositionTo ms (suc k) rem g = rw e at f in
    rw (ev, e)
    (record {
      low = composition_low f';
      high = composition_high f';
      down = composition_prefix f';
      rank = refl;
    })

pub rank_done : (ms g : List ℕ) (k rem t : ℕ) → k ≡ 0 → rank_of ms k rem t g ≡ 0
unfolding rank_of
rank_done ms g k rem t e = rw e

-- its rank is within the limit
pub rank_small : (ms : List ℕ) (r : ℕ) (last : Row) (cells : List ℕ) → Filled ms r last cells → (g : List ℕ) → CompositionTo ms (length ms) r g
    → rank_of ms (length ms) r 0 g < cap
rank_small ms r last cells filled g parts =
    let limit = (filled.table.holds (length ms) (le_refl _) r (whole_band ms r filled.reached) (omega (arith, filled.small))).1 in
    omega (arith, rank_lt ms (length ms) r 0 g parts, length_listing ms (length ms) r 0, limit)
