-- `count::row::top` meets its contract.
use Rattle.std.proofs.Common.{◌≡◌, ◌+◌, ◌<◌}
use Rattle.walsh.specs.Sums.{sum}
use Rattle.walsh.specs.Order.{count}
use Rattle.band.specs.Band.{cap}
use Rattle.count.proofs.row.top.Given as goal

abbrev pub invariant-loop-t : goal.invariant-loop-t
invariant-loop-t l = record {
  small : l.w < cap;
  sum : l.w + sum (count l.part.upper.now l.part.k) l.first ≡ sum (count l.part.upper.now l.part.k) l.t;
}
