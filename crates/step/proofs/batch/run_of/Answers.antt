-- `step::batch::run_of` meets its contract.
use Rattle.std.proofs.Common.{refl, arith}
use Rattle.step.proofs.Runs.{run_begins}
use Rattle.step.proofs.batch.run_of.Goals as goal

pub returns : goal.returns
returns c =
    let a = c.args in (
      refl,
      refl,
      run_begins a.shape.upper.now a.shape.total a.shape.front _ _ c.from.result c.from-2.result c.saturating_sub.result c.saturating_sub-lo.result c.min-hi.result
          c.from-3.result c.from-4.result c.from-5.result c.values_left-more.result c.is_odd-falling.result
          c.from.ensures c.from-2.ensures c.saturating_sub.ensures c.is_odd-falling.ensures (c.from-3.ensures, omega arith) c.saturating_sub-lo.ensures
          (c.from-4.ensures, omega arith) c.min-hi.ensures c.from-5.ensures c.values_left-more.ensures,
    )
