-- `step::checked_step` meets its contract: the laws of proofs/Answers at each return.
use Rattle.std.proofs.Common.{◌≡◌, ℕ, ◌+◌, ◌≤◌, Bool, true, false, cond, ◌∙◌, arith}
use mir.Val.{bool_byte}
use Rattle.bounds.proofs.Editions.{edition_shapely}
use Rattle.bounds.proofs.Reasons.{accepted, passed_as}
use Rattle.step.proofs.Answers.{step_edition, step_given, step_shifted, valid}
use Rattle.step.proofs.checked_step.Goals as goal

pub returns-in_err-check_bounds : goal.returns-in_err-check_bounds
returns-in_err-check_bounds c =
    let e = c.in_err-check_bounds.field-0.0 in
    rw (passed_as e _ c.from_residual.ensures.1) (step_edition _ _ _ _ e c.in_err-check_bounds.ensures)

pub returns-in_err-check_composition : goal.returns-in_err-check_composition
returns-in_err-check_composition c =
    let e = c.in_err-check_composition.field-0.0 in
    rw
    (passed_as e _ c.from_residual-in_err-check_composition.ensures.1)
    (step_given _ _ _ _ c.in_ok-check_bounds.ensures e c.in_err-check_composition.ensures)

-- one more than the total where the step goes back
side : (back : Bool) (r one : ℕ) → one ≡ bool_byte back → (r + one ≡ cond back (r + 1) r) × (r + one ≤ r + 1)
side true r one e = (omega (arith, e), omega (arith, e))
side false r one e = (omega (arith, e), omega (arith, e))

pub shift-requires : goal.shift-requires
shift-requires c =
    let a = c.args in
    let s = edition_shapely a.upper.now a.total (accepted _ c.in_ok-check_bounds.ensures) in
    let size = (valid a.back _ _ _ c.in_ok-check_bounds.ensures c.in_ok-check_composition.ensures).size in
    (s.some, s.few, size, omega (arith, (side a.back a.total _ c.from.ensures).1, c.ranges.total.fits))

pub returns : goal.returns
returns c =
    let a = c.args in
    c.shift.ensures
    ∙ step_shifted _ _ _ _ c.in_ok-check_bounds.ensures c.in_ok-check_composition.ensures _ (side a.back a.total _ c.from.ensures).0
