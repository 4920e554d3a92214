-- `rank::rank` meets its contract.
use Rattle.bounds.proofs.Reasons.{passed_as, accepted}
use Rattle.rank.proofs.Calls.{ranked_accepted, ranked_edition, ranked_low, ranked_high}
use Rattle.rank.proofs.rank.Goals as goal

pub returns-in-Ok : goal.returns-in-Ok
returns-in-Ok c =
    let f = c.in-Ok.ensures in
    ranked_accepted _ _ _ c.in-Ok.found.serial f.refusal (rw f.found)

pub returns-in_err-check_bounds-in-Err : goal.returns-in_err-check_bounds-in-Err
returns-in_err-check_bounds-in-Err c =
    let e = c.in_err-check_bounds-in-Err.field-0.0 in
    rw (passed_as e _ c.from_residual.ensures.1) (ranked_edition _ _ _ e c.in_err-check_bounds-in-Err.ensures)

pub returns-in_ok-check_bounds-in-Err : goal.returns-in_ok-check_bounds-in-Err
returns-in_ok-check_bounds-in-Err c =
    ranked_high _ _ _ c.in-Err.reason c.in-Err.ensures.refusal (accepted _ c.in_ok-check_bounds-in-Err.ensures)

pub returns-else-number-gt6 : goal.returns-else-number-gt6
returns-else-number-gt6 c =
    ranked_low _ _ _ c.in-Err.reason c.in-Err.ensures.refusal (rw c.number.ensures at c.if-number-gt6.false)
