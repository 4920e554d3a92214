-- `integrity::pass::halves` meets its contract: the first k blocks of both parts are looked at.
use Rattle.integrity.specs.Lines.{lines_in}
use Rattle.integrity.proofs.Halves.{Twins}
use Rattle.integrity.proofs.pass.halves.Given as goal

abbrev pub invariant-loop-k : goal.invariant-loop-k
invariant-loop-k l = Twins (lines_in l.low) (lines_in l.high) l.k l.zeros
