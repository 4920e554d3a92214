-- `band::window::table::fill_rows` meets its contract.
use Rattle.band.specs.Band.{IsRow, RowsHold}
use Rattle.band.proofs.window.table.fill_rows.Given as goal

abbrev pub invariant-loop-k : goal.invariant-loop-k
invariant-loop-k l =
    IsRow l.upper l.total l.k l.row × RowsHold l.upper l.total l.cells l.k
