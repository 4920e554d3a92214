-- `permutation::check_permutation` meets its contract.
use Rattle.std.proofs.Common.{refl, ◌∙◌, ◌++◌, arith}
use Rattle.bounds.specs.Edition.{edition_checks}
use Rattle.bounds.proofs.Reasons.{passed_on, coded-first, told-later}
use Rattle.permutation.specs.Conversions.{staircase_checks, permutation_checks}
use Rattle.permutation.proofs.Tables.{staircase_few, permutation_yes, permutation_no}
use Rattle.permutation.proofs.check_permutation.Goals as goal

pub returns-in_err-check_staircase : goal.returns-in_err-check_staircase
returns-in_err-check_staircase c =
    let a = c.args in
    let ms = a.upper.now in
    passed_on _ _ c.from_residual.ensures.1
    ∙ coded-first _ (edition_checks ms a.total ++ staircase_checks ms) (permutation_checks ms a.p.now) c.in_err-check_staircase.ensures

pub is_permutation-requires : goal.is_permutation-requires
is_permutation-requires c = omega (arith, staircase_few c.args.upper.now c.args.total c.in_ok-check_staircase.ensures refl)

pub returns-then-is_permutation : goal.returns-then-is_permutation
returns-then-is_permutation c =
    let a = c.args in
    let ms = a.upper.now in
    told-later _ (edition_checks ms a.total ++ staircase_checks ms) (permutation_checks ms a.p.now) refl c.in_ok-check_staircase.ensures
    (permutation_yes ms a.p.now c.is_permutation.ensures c.if-is_permutation.true refl)

pub returns : goal.returns
returns c =
    let a = c.args in
    let ms = a.upper.now in
    told-later _ (edition_checks ms a.total ++ staircase_checks ms) (permutation_checks ms a.p.now) refl c.in_ok-check_staircase.ensures
    (permutation_no ms a.p.now c.is_permutation.ensures c.if-is_permutation.false refl)
