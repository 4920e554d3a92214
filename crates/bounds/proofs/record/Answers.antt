-- `bounds::record` meets its contract.
use Rattle.bounds.proofs.record.Goals as goal

pub returns : goal.returns
returns c = rw c.pack.ensures
