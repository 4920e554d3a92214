-- `integrity::meet::sift` meets its contract: after each eight lines, looked at or passed over, the orders before the first are new.
use Rattle.std.proofs.Common.{◌+◌, ◌*◌, ◌≤◌}
use Rattle.integrity.specs.Lines.{lines_in}
use Rattle.integrity.specs.Sift.{Sifted}
use Rattle.integrity.proofs.meet.sift.Given as goal

abbrev pub invariant-loop-j : goal.invariant-loop-j
invariant-loop-j l =
    Sifted (lines_in l.lines) (lines_in l.bundle) (l.from + 8 * l.j) l.hit.first l.hit.place × (l.hit.first ≤ l.initial.hit.first)
