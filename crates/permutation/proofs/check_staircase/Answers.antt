-- `permutation::check_staircase` meets its contract.
use Rattle.std.proofs.Common.{refl, ◌∙◌}
use Rattle.bounds.specs.Edition.{edition_checks}
use Rattle.bounds.proofs.Reasons.{passed_on, coded-first, told-later}
use Rattle.permutation.specs.Conversions.{staircase_checks}
use Rattle.permutation.proofs.Tables.{staircase_yes, staircase_no}
use Rattle.permutation.proofs.check_staircase.Goals as goal

pub returns-in_err-check_bounds : goal.returns-in_err-check_bounds
returns-in_err-check_bounds c =
    let a = c.args in
    passed_on _ _ c.from_residual.ensures.1
    ∙ coded-first _ (edition_checks a.upper.now a.total) (staircase_checks a.upper.now) c.in_err-check_bounds.ensures

pub returns-then-is_staircase : goal.returns-then-is_staircase
returns-then-is_staircase c =
    let a = c.args in
    told-later _ (edition_checks a.upper.now a.total) (staircase_checks a.upper.now) refl c.in_ok-check_bounds.ensures
    (staircase_yes a.upper.now c.is_staircase.ensures c.if-is_staircase.true refl)

pub returns : goal.returns
returns c =
    let a = c.args in
    told-later _ (edition_checks a.upper.now a.total) (staircase_checks a.upper.now) refl c.in_ok-check_bounds.ensures
    (staircase_no a.upper.now c.is_staircase.ensures c.if-is_staircase.false refl)
