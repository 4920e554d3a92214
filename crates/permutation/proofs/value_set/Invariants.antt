-- `permutation::value_set` meets its contract. The entries before the turn's are collected.
use lib.ListN.{take}
use Rattle.permutation.specs.Values.{Collected}
use Rattle.permutation.proofs.value_set.Given as goal

abbrev pub invariant-loop-entry : goal.invariant-loop-entry
invariant-loop-entry l = Collected l.set l.over (take l.entry-index l.p)
