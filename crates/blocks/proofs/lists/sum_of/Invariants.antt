-- `blocks::lists::sum_of` meets its contract.
use Rattle.std.proofs.Common.{◌≡◌, ◌≤◌, ◌*◌}
use Rattle.walsh.specs.Sums.{sum_to}
use Rattle.blocks.proofs.lists.sum_of.Given as goal

abbrev pub invariant-loop-x : goal.invariant-loop-x
invariant-loop-x l = (l.sum ≡ sum_to l.parts l.x-index) × (l.sum ≤ 255 * l.x-index)
