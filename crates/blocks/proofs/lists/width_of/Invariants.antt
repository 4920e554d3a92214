-- `blocks::lists::width_of` meets its contract.
use Rattle.std.proofs.Common.{◌+◌, ◌*◌, ◌≤◌}
use Rattle.blocks.proofs.lists.width_of.Given as goal

-- the number of entries is small
abbrev pub invariant-loop-w : goal.invariant-loop-w
invariant-loop-w l = (l.number ≤ 12272) × (l.sums ≤ 1 + 255 * l.w) × (l.left ≤ l.w)
