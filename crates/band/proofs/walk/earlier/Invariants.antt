-- `band::walk::earlier` meets its contract.
use Rattle.std.proofs.Common.{◌≡◌}
use Rattle.walsh.specs.Sums.{sum}
use Rattle.walsh.specs.Rank.{block_size}
use Rattle.band.proofs.walk.earlier.Given as goal

abbrev pub invariant-loop-i : goal.invariant-loop-i
invariant-loop-i l = l.s ≡ sum (block_size l.upper l.k l.rem l.t) l.i
