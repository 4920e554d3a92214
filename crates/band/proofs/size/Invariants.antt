-- `band::size` meets its contract.
use Rattle.band.specs.Band.{Sizing}
use Rattle.band.proofs.size.Given as goal

abbrev pub invariant-loop-k : goal.invariant-loop-k
invariant-loop-k l = Sizing l.upper l.total l.k l.left l.cells
