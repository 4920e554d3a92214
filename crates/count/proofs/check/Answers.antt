-- `count::check` meets its contract.
use Rattle.std.proofs.Common.{◌≡◌, ℕ, List, length, take, ap, ◌∙◌}
use lib.Seq.{take_all}
use Rattle.bounds.specs.Edition.{cells_of}
use Rattle.bounds.specs.declared.Bounds.{Bounds}
use Rattle.bounds.proofs.Editions.{edition_shapely}
use Rattle.bounds.proofs.Reasons.{accepted, passed_as}
use Rattle.count.proofs.Answers.{check_refused, check_accepted}
use Rattle.count.proofs.check.Goals as goal

pub returns-in_err-count : goal.returns-in_err-count
returns-in_err-count c =
    let e = c.in_err-count.field-0.0 in
    rw (passed_as e _ c.from_residual.ensures.1) (check_refused c.args.upper.now c.args.total e c.in_err-count.ensures.refusal)

pub returns : goal.returns
returns c =
    let a = c.args in
    let n = c.in_ok-count.ensures in
    let none = accepted _ n.refusal in
    let packed : List ℕ → Bounds = λ l. record { parts = length a.upper.now; upper = cells_of l; total = a.total } in
    let fits : take 24 a.upper.now ≡ a.upper.now = take_all 24 a.upper.now (edition_shapely a.upper.now a.total none).few in
    check_accepted a.upper.now a.total _ _ none (c.record.ensures ∙ ap packed fits) n.count
