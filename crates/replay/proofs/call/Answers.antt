-- `replay::call` meets its contract.
use Rattle.std.proofs.Common.{refl}
use Rattle.model.specs.Entry.{columns}
use Rattle.model.specs.Model.{Call}
use Rattle.model.specs.Record.{answered}
use Rattle.model.proofs.Records.{calling_peek}
use Rattle.replay.proofs.call.Goals as goal

pub returns-in-Peek : goal.returns-in-Peek
returns-in-Peek c =
    let a = c.args in
    let e = c.look.ensures in
    let lent = columns a.column.now a.items.now in
    rw c.in-Peek.is (rw e.0 (calling_peek a.ledger lent (answered a.ledger lent Call.peek) refl), e.1)
