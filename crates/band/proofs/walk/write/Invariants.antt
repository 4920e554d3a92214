-- `band::walk::write` meets its contract. What is still to be found, with the parts stored so far behind it, is the composition.
use Rattle.band.specs.Walk.{Written}
use Rattle.band.proofs.walk.write.Given as goal

abbrev pub invariant-loop-k : goal.invariant-loop-k
invariant-loop-k l =
    Written l.upper l.total l.rank l.k l.rem l.t l.s l.row l.out
