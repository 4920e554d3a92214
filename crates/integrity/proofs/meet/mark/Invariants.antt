-- `integrity::meet::mark` meets its contract: the first i orders are marked, and none of them stands earlier in the bundle.
use Rattle.integrity.specs.Lines.{lines_in}
use Rattle.integrity.specs.Sift.{Marked}
use Rattle.integrity.proofs.Sifting.{Apart}
use Rattle.integrity.proofs.meet.mark.Given as goal

abbrev pub invariant-loop-i : goal.invariant-loop-i
invariant-loop-i l = Apart (lines_in l.bundle) l.i × Marked l.marks l.bundle.orders.now l.i
