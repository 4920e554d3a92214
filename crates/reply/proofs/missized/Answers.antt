-- `reply::missized` meets its contract.
use Rattle.integrity.proofs.Checks.{seen_some, seen_none}
use Rattle.reply.proofs.missized.Goals as goal

pub returns-in-Some : goal.returns-in-Some
returns-in-Some c = rw (seen_some _ c.in-Some.ensures).0

pub returns-in-None : goal.returns-in-None
returns-in-None c = rw (seen_none _ c.in-None.ensures)
