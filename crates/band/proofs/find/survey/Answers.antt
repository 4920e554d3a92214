-- `band::find::survey` meets its contract.
use Rattle.bounds.proofs.Reasons.{accepted}
use Rattle.bounds.proofs.Editions.{shapely}
use Rattle.band.proofs.find.survey.Goals as goal

pub size-size-requires : goal.size-size-requires
size-size-requires c =
    let e = c.in_ok-all.ensures in
    let p = shapely c.args.upper.now c.args.total (accepted _ e.refusal) in
    (p.few, p.small, p.reached, e.sum)
