-- `count::row::fall` meets its contract.
use Rattle.std.proofs.Common.{◌≤◌, min}
use Rattle.count.specs.Row.{Passed}
use Rattle.count.proofs.row.fall.Given as goal

abbrev pub invariant-loop-t : goal.invariant-loop-t
invariant-loop-t l = record {
  high : l.t ≤ l.at.t;
  low : min l.at.t l.end ≤ l.t;
  passed : Passed l.part.upper.now l.part.total l.part.k l.t l.w l.cells;
}
