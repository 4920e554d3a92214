-- `engine::huz_claim_in` keeps its promise: it hands the record and the columns to `ledger::claim`, and stores what comes back where it is accepted.
use Rattle.lent.proofs.Stored.{accepted_stored, refused_kept}
use Rattle.engine.proofs.huz_claim_in.Goals as goal
use Rattle.engine.proofs.huz_claim_in.Goals.{then-claimed-eq0, else-claimed-eq0}

pub returns : goal.returns
returns c =
    let e = c.claim-claimed.ensures in
    elim c.if-claimed-eq0.branch [
      | then-claimed-eq0 w ↦ accepted_stored _ _ _ _ _ _ e w.ledger-is
      | else-claimed-eq0 w ↦ refused_kept _ _ _ _ _ _ e w.if-claimed-eq0.false w.ledger-is
    ]
