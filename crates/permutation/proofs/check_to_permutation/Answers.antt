-- `permutation::check_to_permutation` meets its contract. Each place's refusal stands for the rest, or the next place is looked at.
use Rattle.std.proofs.Common.{refl, ◌∙◌, ◌++◌, ◌+◌, length}
use Rattle.bounds.specs.Edition.{edition_checks}
use Rattle.bounds.specs.Places.{composition_checks, lent_checks}
use Rattle.bounds.proofs.Reasons.{passed_on, coded-first, told-later}
use Rattle.permutation.specs.Conversions.{staircase_checks}
use Rattle.permutation.proofs.check_to_permutation.Goals as goal

pub returns-in_err-check_staircase : goal.returns-in_err-check_staircase
returns-in_err-check_staircase c =
    let a = c.args in
    let ms = a.upper.now in
    passed_on _ _ c.from_residual.ensures.1
    ∙ coded-first _ (edition_checks ms a.total ++ staircase_checks ms) (composition_checks ms a.total a.g.now ++ lent_checks (length ms + 1) a.room)
    c.in_err-check_staircase.ensures

pub returns-in_err-check_composition : goal.returns-in_err-check_composition
returns-in_err-check_composition c =
    let a = c.args in
    let ms = a.upper.now in
    passed_on _ _ c.from_residual-in_err-check_composition.ensures.1
    ∙ told-later _ (edition_checks ms a.total ++ staircase_checks ms) (composition_checks ms a.total a.g.now ++ lent_checks (length ms + 1) a.room) refl
    c.in_ok-check_staircase.ensures
    (coded-first _ (composition_checks ms a.total a.g.now) (lent_checks (length ms + 1) a.room) c.in_err-check_composition.ensures)

pub returns : goal.returns
returns c =
    let a = c.args in
    let ms = a.upper.now in
    told-later _ (edition_checks ms a.total ++ staircase_checks ms) (composition_checks ms a.total a.g.now ++ lent_checks (length ms + 1) a.room) refl
    c.in_ok-check_staircase.ensures
    (told-later _ (composition_checks ms a.total a.g.now) (lent_checks (length ms + 1) a.room) refl c.in_ok-check_composition.ensures c.check_lent.ensures)
