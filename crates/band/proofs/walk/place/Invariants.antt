-- `band::walk::place` meets its contract. The sum so far and the rank of the parts that are left make the rank.
use Rattle.band.specs.Walk.{Placed}
use Rattle.band.proofs.walk.place.Given as goal

abbrev pub invariant-loop-k : goal.invariant-loop-k
invariant-loop-k l =
    Placed l.upper l.total l.g l.k l.rem l.t l.s l.row
