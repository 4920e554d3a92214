-- `the `find` of `InversionVector`` meets its contract. From place i on the vector and the inversions are found.
use Rattle.permutation.proofs.Turns.{FoundFrom}
use Rattle.permutation.proofs.InversionVectorReads.find.Given as goal

abbrev pub invariant-loop-i : goal.invariant-loop-i
invariant-loop-i l = FoundFrom l.p l.i l.cells l.sum l.behind
