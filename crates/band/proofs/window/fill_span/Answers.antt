use Rattle.std.proofs.Common.{◌≡◌, suc, ◌+◌, ◌-◌, ◌*◌, ◌<◌, ◌≤◌, length, le_trans, arith}
use Rattle.band.specs.Band.{highest, InBand, band_size, cell_index}
use Rattle.band.proofs.Numbers.{suc_le, le_last}
use Rattle.band.proofs.Bands.{band_ends, cell_room}
use Rattle.band.proofs.Rows.{at_low, at_place, at_small, store_row, store_rows}
use Rattle.band.proofs.Slides.{slid_done, slid_most}
use Rattle.band.proofs.window.fill_span.Goals as goal
use Rattle.band.proofs.window.fill_span.Goals.{In-loop-t}

-- the sum is one of the row that is filled
in_at : (c : In-loop-t)
    → let a = c.args in
    (a.part.next.low ≤ c.loop-t.t) × (c.loop-t.t ≤ a.part.next.high)
in_at c =
    let p = c.requires in (le_trans p.1.low c.loop-t.auto.t, le_last c.loop-t-test.true p.1.high)

band_at : (c : In-loop-t)
    → let a = c.args in
    InBand a.part.upper.now a.part.total (a.part.k + 1) c.loop-t.t
band_at c =
    let i = in_at c in
    let f = c.args.part.filling.to in
    band_ends _ _ _ _ (rw (← f.low) i.0) (rw (← f.high) i.1)

place_at : (c : In-loop-t)
    → let a = c.args in
    let t = c.loop-t.t in
    let p = cell_index a.part.upper.now a.part.total (a.part.k + 1) t in
    (a.part.next.low ≤ t) × (a.part.next.start + (t - a.part.next.low) ≡ p) × (p < 256 * suc (a.part.k + 1)) × (p < band_size a.part.upper.now a.part.total)
place_at c =
    let a = c.args in
    let f = c.args.part.filling in
    let ms = a.part.upper.now in
    let t = c.loop-t.t in
    let b = band_at c in (
      at_low ms a.part.total (a.part.k + 1) t a.part.next f.to b,
      at_place ms a.part.total (a.part.k + 1) t a.part.next f.to b,
      at_small ms a.part.total (a.part.k + 1) t a.part.next f.to b f.small,
      cell_room ms a.part.total (a.part.k + 1) t (suc_le f.part) b,
    )

pub returns-in_err-w : goal.returns-in_err-w
returns-in_err-w c =
    let p = c.args.part.filling in
    let ms = c.args.part.upper.now in
    let l = c.loop-t in
    let high : l.t ≤ highest ms c.args.part.total (c.args.part.k + 1) = rw (← p.to.high) (in_at (goal.at.returns-in_err-w c).In-loop-t).1 in
    let most = slid_most ms c.args.part.total c.args.part.k l.t c.step.result p.part p.reached c.step.ensures high in
    rw c.from_residual.ensures (le_trans c.in_err-w.ensures most)

pub bounds-cells-next : goal.bounds-cells-next
bounds-cells-next c =
    let turn = c in
    let p = place_at (goal.at.bounds-cells-next turn).In-loop-t in
    omega (arith, turn.loop-t.auto.cells, turn.requires.0)

pub loop-t-preserved : goal.loop-t-preserved
loop-t-preserved c =
    let l = c.loop-t in
    let a = c.args.part in
    let f = a.filling in
    let ms = a.upper.now in
    let p = place_at (goal.at.loop-t-preserved c).In-loop-t in
    let band = band_at (goal.at.loop-t-preserved c).In-loop-t in
    let w = c.in_ok-w.ensures in
    let slid = rw (← w.0) at c.step.ensures in
    let room : cell_index ms a.total (a.k + 1) l.t < length l.cells = rw l.auto.cells (le_trans p.3 c.requires.0) in
    let is = slid_done ms a.total a.k l.t _ f.part f.reached slid (rw (← f.to.low) (in_at (goal.at.loop-t-preserved c).In-loop-t).0) in
    let old = l.invariant in
    record {
      rows = store_rows ms a.total a.k l.t _ _ l.cells old.rows old.row band p.1;
      row = store_row ms a.total a.k l.t _ _ l.cells old.rows old.row band p.1 (rw p.1 room) is w.1;
      window = slid;
      small = w.1;
    }

pub overflow_add-cells : goal.overflow_add-cells
overflow_add-cells c = let p = place_at (goal.at.overflow_add-cells c).In-loop-t in omega arith

pub offset_bounds-cells-next : goal.offset_bounds-cells-next
offset_bounds-cells-next c = let p = place_at (goal.at.offset_bounds-cells-next c).In-loop-t in omega arith
