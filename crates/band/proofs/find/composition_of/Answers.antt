-- `band::find::composition_of` meets its contract.
use Rattle.std.proofs.Common.{◌∙◌}
use Rattle.bounds.specs.Edition.{shape_checks, limit_checks}
use Rattle.bounds.proofs.Reasons.{coded-first, passed_on}
use Rattle.band.proofs.find.composition_of.Goals as goal

pub returns-in_err-shape-clause-refusal : goal.returns-in_err-shape-clause-refusal
returns-in_err-shape-clause-refusal c =
    let ms = c.args.upper.now in
    let r = c.args.total in
    passed_on _ _ c.from_residual.ensures.1 ∙ coded-first _ (shape_checks ms r) (limit_checks ms r) c.in_err-shape.ensures.refusal
