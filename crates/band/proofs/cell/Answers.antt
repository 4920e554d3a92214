-- `band::cell` meets its contract.
use Rattle.std.proofs.Common.{◌≡◌, suc, ◌+◌, ◌-◌, ◌*◌, ◌<◌, ◌≤◌, arith}
use Rattle.band.proofs.Bands.{cell_room}
use Rattle.band.proofs.Rows.{at_low, at_place, at_small}
use Rattle.band.specs.Band.{band_size, cell_index}
use Rattle.band.proofs.cell.Goals as goal
use Rattle.band.proofs.cell.Goals.{Start}

place_at : (c : Start)
    → let a = c.args in
    let p = cell_index a.upper.now a.total a.k a.t in
    (a.row.low ≤ a.t) × (a.row.start + (a.t - a.row.low) ≡ p) × (p < 256 * suc a.k) × (p < band_size a.upper.now a.total)
place_at c =
    let a = c.args in
    let p = c.requires in
    let ms = a.upper.now in (
      at_low ms a.total a.k a.t a.row p.3 p.4,
      at_place ms a.total a.k a.t a.row p.3 p.4,
      at_small ms a.total a.k a.t a.row p.3 p.4 p.2,
      cell_room ms a.total a.k a.t p.0 p.4,
    )

pub overflow_add-result : goal.overflow_add-result
overflow_add-result c = let p = place_at (goal.at.overflow_add-result c).Start in omega arith

pub offset_bounds-cells-row : goal.offset_bounds-cells-row
offset_bounds-cells-row c = let p = place_at (goal.at.offset_bounds-cells-row c).Start in omega arith

pub bounds-cells-row : goal.bounds-cells-row
bounds-cells-row c = let p = place_at (goal.at.bounds-cells-row c).Start in omega (arith, c.requires.5)
