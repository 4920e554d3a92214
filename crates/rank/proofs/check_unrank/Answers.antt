-- `rank::check_unrank` meets its contract.
use Rattle.std.proofs.Common.{◌++◌, refl, ◌∙◌, length}
use Rattle.bounds.specs.Edition.{edition_checks}
use Rattle.bounds.specs.Places.{serial_checks, lent_checks}
use Rattle.bounds.proofs.Reasons.{passed_on, coded-first, told-later}
use Rattle.rank.proofs.check_unrank.Goals as goal

pub returns-in_err-n : goal.returns-in_err-n
returns-in_err-n c = let e = c.in_err-n.field-0.0 in passed_on e _ c.from_residual.ensures.1 ∙ coded-first e _ _ c.in_err-n.ensures.refusal

pub returns-in_err-check_serial : goal.returns-in_err-check_serial
returns-in_err-check_serial c =
    let a = c.args in
    let e = c.in_err-check_serial.field-0.0 in
    passed_on e _ c.from_residual-in_err-check_serial.ensures.1
    ∙ told-later _ (edition_checks a.upper.now a.total) (serial_checks a.upper.now a.total a.serial ++ lent_checks (length a.upper.now) a.have)
    refl c.in_ok-n.ensures.refusal
    (coded-first e (serial_checks a.upper.now a.total a.serial) _ (rw c.in_ok-n.ensures.count at c.in_err-check_serial.ensures))

pub returns : goal.returns
returns c =
    let a = c.args in
    told-later _ (edition_checks a.upper.now a.total) (serial_checks a.upper.now a.total a.serial ++ lent_checks (length a.upper.now) a.have)
    refl c.in_ok-n.ensures.refusal
    (told-later _ (serial_checks a.upper.now a.total a.serial) (lent_checks (length a.upper.now) a.have) refl
    (rw c.in_ok-n.ensures.count at c.in_ok-check_serial.ensures) c.check_lent.ensures)
