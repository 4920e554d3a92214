-- Laws of the run of a part's values: which values they are, and that the cells which `block` reads are their counts.
use Rattle.std.proofs.Common.{◌≡◌, ℕ, suc, ◌+◌, ◌-◌, ◌*◌, ◌<◌, ◌≤◌, List, get_or, refl, ap, ◌∙◌, le_refl, lt_of_lt_of_le, le_of_lt, arith}
use Rattle.walsh.specs.Order.{least, most, part_value, part_choices}
use Rattle.walsh.specs.Rank.{index_of, part_index, block_size}
use Rattle.walsh.proofs.Lists.{value_low, value_high}
use Rattle.band.specs.Band.{InBand}
use Rattle.band.specs.declared.Row.{Row}
use Rattle.band.proofs.Bands.{band_down, band_value, start_small, cell_room}
use Rattle.band.proofs.Rows.{at_low, at_place}
use Rattle.band.specs.Walk.{run_of, in_run, Here, Readable}
use Rattle.band.specs.declared.walk.Run.{Run}

pub in_run_lem : (w : Run) (i : ℕ) → i < suc w.high - w.low → (w.low ≤ in_run w i) × (in_run w i ≤ w.high)
unfolding in_run
in_run_lem w i l = (value_low w.low w.high w.falls i l, value_high w.low w.high w.falls i l)

module _ (ms : List ℕ) (k rem t : ℕ) (w : Run) (e : w ≡ run_of ms k rem t) where
  pub run_ends : (w.low ≡ least ms k rem) × (w.high ≡ most ms k rem)
  unfolding run_of
  run_ends = rw e (refl, refl)

  pub run_choices : suc w.high - w.low ≡ part_choices ms k rem
  unfolding run_of
  run_choices = rw e

  run_value : (i : ℕ) → in_run w i ≡ part_value ms k rem t i
  unfolding run_of in_run
  run_value i = rw e

  pub run_index : (v : ℕ) → index_of w.low w.high w.falls v ≡ part_index ms k rem t v
  unfolding run_of
  run_index v = rw e

  pub run_picks : (i v : ℕ) → v ≡ in_run w i → v ≡ part_value ms k rem t i
  run_picks i v ev = ev ∙ run_value i

  module _ (row : Row) (cells : List ℕ) (here : Here ms k rem t row cells) where
    ends : least ms k rem ≤ most ms k rem
    ends = omega (arith, here.band.inside)

    leaves : (v : ℕ) → least ms k rem ≤ v → v ≤ most ms k rem → InBand ms (t + rem) k (rem - v)
    leaves v low high = band_down ms (t + rem) k rem v here.inside here.band low high

    -- `block` may be called
    pub run_readable : Readable w rem row cells
    run_readable =
        let first = leaves (most ms k rem) ends (le_refl _) in
        let last = leaves (least ms k rem) (le_refl _) ends in
        record {
          small = omega (arith, here.small);
          high = rw run_ends.1 (omega arith);
          low = rw run_ends.1 (at_low ms (t + rem) k (rem - most ms k rem) row here.row first);
          start = starts here.row.start (start_small ms (t + rem) here.small k) here.few;
          room =
              rw (run_ends.0, at_place ms (t + rem) k (rem - least ms k rem) row here.row last)
              (lt_of_lt_of_le (cell_room ms (t + rem) k (rem - least ms k rem) (le_of_lt here.inside) last) here.table.room);
        }
      where
        starts : {s b : ℕ} → s ≡ b → b ≤ 256 * k → k < 24 → s ≤ 6144
        starts e l f = omega arith

    -- the cell that it reads
    pub run_block : (i x : ℕ) → i < part_choices ms k rem → x ≡ get_or cells (row.start + (rem - in_run w i - row.low)) 0 → x ≡ block_size ms k rem t i
    run_block i x l ex =
        let v : ℕ = part_value ms k rem t i in
        let b = band_value ms (t + rem) k rem t i here.inside here.band l in
        ex
        ∙ ap (λ (u : ℕ). get_or cells (row.start + (rem - u - row.low)) 0) (run_value i)
        ∙ ap (λ (p : ℕ). get_or cells p 0) (at_place ms (t + rem) k (rem - v) row here.row b)
        ∙ (here.table.holds k (le_of_lt here.inside) (rem - v) b (below v here.small)).0
      where
        below : (u : ℕ) → t + rem ≤ 255 → rem - u < 256
        below u s = omega arith
