-- `permutation::to_composition` meets its contract.
use Rattle.std.proofs.Common.{refl, ◌∙◌, ◌<◌, arith}
use Rattle.bounds.proofs.Cells.{copied_over}
use Rattle.bounds.proofs.Filling.{filling_done}
use Rattle.bounds.proofs.Reasons.{passed_on, coded-refuses}
use Rattle.permutation.specs.Conversions.{to_composition}
use Rattle.permutation.proofs.Tables.{filling_reason, to_composition_ready}
use Rattle.permutation.proofs.to_composition.Goals as goal

pub returns-in_err-find_composition : goal.returns-in_err-find_composition
unfolding to_composition
returns-in_err-find_composition g c =
    rw (passed_on _ _ c.from_residual.ensures.1) (filling_reason _ _ _ _ c.in_err-find_composition.ensures.refusal)

pub returns : goal.returns
unfolding to_composition
returns g c =
    let a = c.args in
    let is = c.in_ok-find_composition.ensures in
    let some : 0 < g.R.Reads.reading.number = coded-refuses g.R.Reads.OTHER _ g.met.R.Reads.other_is in
    let few = to_composition_ready g.R.Reads.reading some a.upper.now a.total a.permutation.now _ is.refusal refl in
    filling_done _ _ _ is.refusal refl (c.copy.ensures ∙ copied_over _ _ (omega (arith, few)) ∙ is.found)
