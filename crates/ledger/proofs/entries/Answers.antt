-- `ledger::entries` meets its contract.
use mathlib.Core.Path.{refl, sym, ap, ◌∙◌}
use Prim.Native.Nat.{ℕ}
use native.Mathlib.Omega.{arith}
use lib.ListN.{take}
use lib.Seq.{length-take-le}
use Rattle.model.specs.Entry.{columns}
use Rattle.model.proofs.Records.{entries_within, orders_so_far}
use Rattle.ledger.proofs.entries.Goals as goal

pub slice_bounds-result-end : goal.slice_bounds-result-end
slice_bounds-result-end c =
    let a = c.args in
    let within = entries_within a.ledger (columns a.orders.now a.items.now) in
    sym (length-take-le _ a.orders.now (omega (arith, c.written-n.ensures, within)))

pub returns : goal.returns
returns c =
    let a = c.args in
    let n = c.written-n.ensures in
    (ap (λ (k : ℕ). take k a.orders.now) n ∙ orders_so_far a.ledger (columns a.orders.now a.items.now), refl)
