-- The `fill` of `MajorCode` meets its contract. The places from i on are filled.
use Rattle.major.proofs.Drawing.{Drawing}
use Rattle.major.proofs.MajorCodeReads.fill.Given as goal

abbrev pub invariant-loop-i : goal.invariant-loop-i
invariant-loop-i l = Drawing l.g l.left l.place l.i l.out
