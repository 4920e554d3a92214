-- `ledger::written` meets its contract.
use Rattle.std.proofs.Common.{sym}
use Rattle.model.proofs.Records.{entries_none, entries_some}
use Rattle.integrity.proofs.Checks.{seen_some, seen_none}
use Rattle.ledger.proofs.written.Goals as goal

pub returns-in-Some : goal.returns-in-Some
returns-in-Some c = sym (entries_some _ _ (seen_some _ c.in-Some.ensures).0)

pub returns-in-None : goal.returns-in-None
returns-in-None c = sym (entries_none _ _ (seen_none _ c.in-None.ensures))
