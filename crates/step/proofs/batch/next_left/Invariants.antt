-- `step::batch::next_left` meets its contract. The bounds that were passed are 0.
use Rattle.std.proofs.Common.{◌≡◌, ◌≤◌, max, length}
use Rattle.walsh.specs.Sums.{sum_to}
use Rattle.step.proofs.batch.next_left.Given as goal

abbrev pub invariant-loop-j : goal.invariant-loop-j
invariant-loop-j l = record {
  passed : sum_to l.upper l.j ≡ sum_to l.upper l.i;
  end : l.j ≤ max l.i (length l.upper);
}
