-- `integrity::pass::search` meets its contract: none of the first k lines is of the order.
use Rattle.model.specs.Entry.{entry, same_order}
use Rattle.integrity.specs.Lines.{lines_in}
use Rattle.integrity.proofs.Places.{Clear}
use Rattle.integrity.proofs.pass.search.Given as goal

abbrev pub invariant-loop-k : goal.invariant-loop-k
invariant-loop-k l = Clear (same_order (entry l.order l.item)) (lines_in l.lines) l.k
