use Rattle.band.proofs.Rows.{base_rows, row_first}
use Rattle.band.proofs.window.table.fill_rows.Goals as goal

pub loop-k-init : goal.loop-k-init
loop-k-init c =
    let a = c.args in
    let e = c.row_of-row.ensures in (
      row_first a.upper.now a.total c.requires.2 c.row_of-row.result _ c.requires.3 e.0 e.1 e.2 e.3 e.4,
      base_rows a.upper.now a.total a.cells.now c.requires.2 c.requires.4,
    )
