-- `engine::huz_void_in` keeps its promise: it hands the record and the columns to `ledger::void`, and stores what comes back where it is accepted.
use Rattle.lent.proofs.Stored.{accepted_stored, refused_kept}
use Rattle.engine.proofs.huz_void_in.Goals as goal
use Rattle.engine.proofs.huz_void_in.Goals.{then-voided-eq0, else-voided-eq0}

pub returns : goal.returns
returns c =
    let e = c.void-voided.ensures in
    elim c.if-voided-eq0.branch [
      | then-voided-eq0 w ↦ accepted_stored _ _ _ _ _ _ e w.ledger-is
      | else-voided-eq0 w ↦ refused_kept _ _ _ _ _ _ e w.if-voided-eq0.false w.ledger-is
    ]
