-- The `fill` of `InversionVector` meets its contract. Place 0 and the places from i on are filled.
use Rattle.permutation.proofs.Entries.{FilledFrom}
use Rattle.permutation.proofs.InversionVectorReads.fill.Given as goal

abbrev pub invariant-loop-i : goal.invariant-loop-i
invariant-loop-i l = FilledFrom l.g l.i l.out

abbrev pub decreases-loop-i : goal.decreases-loop-i
decreases-loop-i l = l.i
