-- `band::find::serial_of` meets its contract.
use Rattle.std.proofs.Common.{rules, ◌++◌, sym, refl, ◌∙◌}
use Rattle.bounds.specs.Edition.{shape_checks, limit_checks}
use Rattle.bounds.specs.Places.{composition_checks}
use Rattle.bounds.proofs.Compositions.{composition_passed}
use Rattle.bounds.proofs.Reasons.{accepted, coded-first, told-later, passed_on}
use Rattle.band.proofs.Finds.{early_edition}
use Rattle.band.proofs.find.serial_of.Goals as goal

pub returns-in_err-shape-clause-refusal : goal.returns-in_err-shape-clause-refusal
returns-in_err-shape-clause-refusal c =
    let ms = c.args.upper.now in
    let r = c.args.total in
    let g = c.args.composition.now in
    passed_on _ _ c.from_residual.ensures.1
    ∙ coded-first _ (shape_checks ms r) (composition_checks ms r g ++ limit_checks ms r) c.in_err-shape.ensures.refusal

pub returns-in_err-check_composition-clause-refusal : goal.returns-in_err-check_composition-clause-refusal
returns-in_err-check_composition-clause-refusal c =
    let ms = c.args.upper.now in
    let r = c.args.total in
    let g = c.args.composition.now in
    passed_on _ _ c.from_residual-in_err-check_composition.ensures.1
    ∙ told-later _ (shape_checks ms r) (composition_checks ms r g ++ limit_checks ms r) refl c.in_ok-shape.ensures.refusal
    (coded-first _ (composition_checks ms r g) (limit_checks ms r) c.in_err-check_composition.ensures)

pub find-requires : goal.find-requires
find-requires c =
    let e = c.in_ok-shape.ensures.shape in
    let given = composition_passed _ _ _ (accepted _ c.in_ok-check_composition.ensures) in
    λ t n eu et en. search rules

pub returns-clause-refusal : goal.returns-clause-refusal
returns-clause-refusal c =
    let e = c.in_ok-shape.ensures in
    let given = composition_passed _ _ _ (accepted _ c.in_ok-check_composition.ensures) in
    rw (e.shape.0, e.shape.1) at c.find.ensures.refusal ∙ sym (early_edition _ _ _ (accepted _ e.refusal) given)
