-- The `find` of `MajorCode` meets its contract. The rows over i are found.
use Rattle.major.proofs.Finding.{CodeFrom}
use Rattle.major.proofs.MajorCodeReads.find.Given as goal

abbrev pub invariant-loop-i : goal.invariant-loop-i
invariant-loop-i l = CodeFrom l.p l.i l.cells l.sum l.front l.next
