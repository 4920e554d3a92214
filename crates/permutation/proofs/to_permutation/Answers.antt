-- `permutation::to_permutation` meets its contract.
use Rattle.std.proofs.Common.{refl}
use Rattle.bounds.proofs.Filling.{filling_done}
use Rattle.bounds.proofs.Reasons.{passed_on}
use Rattle.permutation.specs.Conversions.{to_permutation}
use Rattle.permutation.proofs.Tables.{filling_reason, to_permutation_ready}
use Rattle.permutation.proofs.to_permutation.Goals as goal

pub returns-in_err-check_to_permutation : goal.returns-in_err-check_to_permutation
unfolding to_permutation
returns-in_err-check_to_permutation g c =
    rw (passed_on _ _ c.from_residual.ensures.1) (filling_reason _ _ _ _ c.in_err-check_to_permutation.ensures)

pub fill-requires : goal.fill-requires
fill-requires g c =
    let a = c.args in
    let ready = to_permutation_ready a.upper.now a.total a.composition.now _ c.in_ok-check_to_permutation.ensures (refl {a = 0}) in
    record { few = ready.0; room = ready.1; parts = ready.2 }

pub returns : goal.returns
unfolding to_permutation
returns g c = filling_done _ _ _ c.in_ok-check_to_permutation.ensures refl c.fill.ensures
