-- `rank::unrank` meets its contract. Each return by the tests on the way to it.
use Rattle.std.proofs.Common.{◌++◌, refl, length, arith}
use Rattle.bounds.specs.Edition.{edition_checks}
use Rattle.bounds.specs.Places.{serial_checks, lent_checks}
use Rattle.bounds.proofs.Editions.{edition_shapely}
use Rattle.bounds.proofs.Reasons.{passed_as, coded-number, coded-first, told-later, accepted}
use Rattle.rank.proofs.Calls.{unrank_refused, length_other, part_filled}
use Rattle.rank.proofs.unrank.Goals as goal

pub returns-then-out-upper : goal.returns-then-out-upper
returns-then-out-upper c = length_other _ _ _ _ c.check_unrank.ensures (λ e. omega (arith, e, c.if-out-upper.true))

pub returns-in_err-count : goal.returns-in_err-count
returns-in_err-count c =
    let e = c.in_err-count.field-0.0 in
    rw
    (passed_as e _ c.from_residual.ensures.1)
    (unrank_refused _ _ _ _ (coded-first e _ _ c.in_err-count.ensures.refusal) (λ z. omega (arith, coded-number e, z)))

pub returns-in_err-check_serial : goal.returns-in_err-check_serial
returns-in_err-check_serial c =
    let a = c.args in
    let l = c.in_ok-count.ensures in
    let e = c.in_err-check_serial.field-0.0 in
    let serial = coded-first e (serial_checks a.upper.now a.total a.serial) _ (rw l.located.count at c.in_err-check_serial.ensures) in
    rw
    (passed_as e _ c.from_residual-in_err-check_serial.ensures.1)
    (unrank_refused _ _ _ _
    (told-later _ (edition_checks a.upper.now a.total)
    (serial_checks a.upper.now a.total a.serial ++ lent_checks (length a.upper.now) (length a.out.now)) refl l.refusal serial)
    (λ z. omega (arith, coded-number e, z)))

pub returns : goal.returns
returns c =
    let a = c.args in
    let l = c.in_ok-count.ensures in
    let none = accepted _ l.refusal in
    let few = (edition_shapely a.upper.now a.total none).few in
    part_filled _ _ _ _ none (rw l.located.count at c.in_ok-check_serial.ensures) refl c.if-out-upper.false
    refl few _ _ c.copy.ensures l.located.cells
