-- `integrity::meet::marked` meets its contract: no mark is found where the sum so far is 0.
use Rattle.std.proofs.Common.{◌≡◌, ◌*◌, ◌≤◌}
use Rattle.integrity.specs.Sift.{Unmarked}
use Rattle.integrity.proofs.meet.marked.Given as goal

abbrev pub invariant-loop-order : goal.invariant-loop-order
invariant-loop-order l = (l.sum ≡ 0 → Unmarked l.marks l.orders 0 l.order-index) × (l.sum ≤ 255 * l.order-index)
