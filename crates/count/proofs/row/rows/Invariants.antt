-- `count::row::rows` meets its contract.
use Rattle.std.proofs.Common.{◌≡◌, length}
use Rattle.walsh.specs.Sums.{sum_to}
use Rattle.count.specs.Row.{IsEnds, RowCounts}
use Rattle.count.proofs.row.rows.Given as goal

abbrev pub invariant-loop-k : goal.invariant-loop-k
invariant-loop-k l = record {
  long : length l.cells ≡ 256;
  left : l.left ≡ sum_to l.upper l.k;
  ends : IsEnds l.upper l.total l.k l.row;
  row : RowCounts l.upper l.total l.cells l.k 0 256;
}
