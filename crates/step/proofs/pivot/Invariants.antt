-- `step::pivot` meets its contract. The search from part i on finds what the whole search finds.
use Rattle.std.proofs.Common.{◌≡◌, ◌-◌, ◌*◌, ◌≤◌, ◌<◌, length}
use Rattle.walsh.specs.Sums.{sum_to}
use Rattle.step.specs.Advance.{moving_from, pivot_of}
use Rattle.step.proofs.pivot.Given as goal

abbrev pub invariant-loop-i : goal.invariant-loop-i
invariant-loop-i l = record {
  some : 0 < l.i;
  within : l.i ≤ length l.upper;
  left : l.left ≡ sum_to l.upper l.i;
  sum : l.sum ≡ sum_to l.parts l.i;
  small_left : l.left ≤ 255 * l.i;
  small_sum : l.sum ≤ 255 * l.i;
  passed : moving_from l.upper l.total l.parts l.i (length l.upper - l.i) ≡ pivot_of l.upper l.total l.parts;
}
