-- `step::batch::check_room` meets its contract.
use Rattle.std.proofs.Common.{◌≡◌, false, ◌+◌, ◌-◌, ◌≤◌, ◌<◌, refl, ◌∙◌, arith, lt-ltb, le-ltb}
use Rattle.bounds.specs.Refusal.{first_refusal}
use Rattle.bounds.specs.Places.{is_no_serial}
use Rattle.bounds.proofs.Reasons.{passed_on, coded-number}
use Rattle.step.proofs.Batches.{serial_none, serial_some}
use Rattle.step.proofs.batch.check_room.Goals as goal
use Rattle.step.proofs.batch.check_room.Goals.{In_ok-check_serial}

pub returns-in_err-check_serial : goal.returns-in_err-check_serial
unfolding first_refusal
returns-in_err-check_serial c =
    let a = c.args in
    let e = c.in_err-check_serial.field-0.0 in
    let none = serial_none a.count a.serial c.in_err-check_serial.ensures (λ z. omega (arith, coded-number e, z)) in
    passed_on e _ c.from_residual.ensures.1 ∙ c.in_err-check_serial.ensures ∙ simp none

-- past the test
given : (c : In_ok-check_serial)
    → let a = c.args in
    (is_no_serial a.count a.serial ≡ false) × (0 < a.serial) × (a.serial ≤ a.count)
given c = let a = c.args in serial_some a.count a.serial c.in_ok-check_serial.ensures refl

pub overflow_sub-count : goal.overflow_sub-count
overflow_sub-count c = (given (goal.at.overflow_sub-count c).In_ok-check_serial).2

pub overflow_add-count : goal.overflow_add-count
overflow_add-count c = omega (arith, given (goal.at.overflow_add-count c).In_ok-check_serial)

pub returns-then-count-serial : goal.returns-then-count-serial
unfolding first_refusal
returns-then-count-serial c =
    let a = c.args in
    simp ((given (goal.at.returns-then-count-serial c).In_ok-check_serial).0, lt-ltb (a.count - a.serial + 1) a.copies c.if-count-serial.true)

pub returns : goal.returns
unfolding first_refusal
returns c =
    let a = c.args in
    c.check_copies.ensures
    ∙ simp ((given (goal.at.returns c).In_ok-check_serial).0, le-ltb (a.count - a.serial + 1) a.copies c.if-count-serial.false)
