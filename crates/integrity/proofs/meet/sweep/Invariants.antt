-- `integrity::meet::sweep` meets its contract: the orders are looked for among the lines of the first k blocks.
use Rattle.std.proofs.Common.{◌*◌, ◌≤◌, min, length}
use Rattle.integrity.specs.Lines.{lines_in}
use Rattle.integrity.specs.Sift.{Sifted}
use Rattle.integrity.proofs.Passes.{Counted}
use Rattle.integrity.proofs.meet.sweep.Given as goal

abbrev pub invariant-loop-k : goal.invariant-loop-k
invariant-loop-k l =
    Counted (lines_in l.lines) l.k l.zeros
    × Sifted (lines_in l.lines) (lines_in l.bundle) (min (length l.lines.orders.now) (l.k * 1024)) l.hit.first l.hit.place
    × (l.hit.first ≤ l.initial.hit.first)
