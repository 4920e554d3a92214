-- `integrity::meet::look` meets its contract.
use Rattle.std.proofs.Common.{◌≤◌}
use Rattle.integrity.specs.Lines.{lines_in}
use Rattle.integrity.specs.Sift.{Sifted}
use Rattle.integrity.proofs.meet.look.Given as goal

abbrev pub invariant-loop-i : goal.invariant-loop-i
invariant-loop-i l =
    Sifted (lines_in l.lines) (lines_in l.bundle) l.i l.hit.first l.hit.place × (l.hit.first ≤ l.initial.hit.first)
