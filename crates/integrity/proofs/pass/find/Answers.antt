-- `integrity::pass::find` meets its contract.
use Rattle.std.proofs.Common.{sym, ◌∙◌}
use Rattle.model.specs.Entry.{entry, same_order, pairs}
use Rattle.integrity.proofs.Pairs.{none_same}
use Rattle.integrity.proofs.Passes.{none_at}
use Rattle.integrity.proofs.Places.{none_passes}
use Rattle.integrity.proofs.pass.find.Goals as goal

pub returns-then-count-eq0 : goal.returns-then-count-eq0
returns-then-count-eq0 c =
    let a = c.args.lines in
    let e = entry c.args.order c.args.item in
    let l = pairs a.orders.now a.items.now in
    let none = none_same c.args.order c.args.item a.orders.now a.items.now (sym c.count.ensures ∙ c.if-count-eq0.true) in
    none_at e l (none_passes (same_order e) l none)
