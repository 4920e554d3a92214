-- `integrity::pass::count_both` meets its contract: the orders so far are counted.
use Rattle.std.proofs.Common.{◌≡◌, ◌≤◌, take}
use Rattle.walsh.specs.Tests.{times}
use Rattle.integrity.proofs.pass.count_both.Given as goal

abbrev pub invariant-loop-x : goal.invariant-loop-x
invariant-loop-x l =
    (l.zeros ≡ times 0 (take l.x-index l.orders)) × (l.hits ≡ times l.order (take l.x-index l.orders))
    × (l.zeros ≤ l.x-index) × (l.hits ≤ l.x-index)
