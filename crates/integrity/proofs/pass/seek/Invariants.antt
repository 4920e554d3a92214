-- `integrity::pass::seek` meets its contract: of the lines of the first k blocks it is known where the order stands.
use Rattle.std.proofs.Common.{◌≡◌, ◌*◌, take}
use Rattle.model.specs.Entry.{entry}
use Rattle.integrity.specs.Lines.{lines_in, stands_at}
use Rattle.integrity.proofs.Passes.{Counted}
use Rattle.integrity.proofs.pass.seek.Given as goal

abbrev pub invariant-loop-k : goal.invariant-loop-k
invariant-loop-k l =
    Counted (lines_in l.lines) l.k l.zeros × (l.place ≡ stands_at (entry l.order l.item) (take (l.k * 1024) (lines_in l.lines)))
