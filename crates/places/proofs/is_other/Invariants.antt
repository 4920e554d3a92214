-- `places::is_other` meets its contract. The parts passed are within their bounds, and with what is left they make up the total.
use Rattle.std.proofs.Common.{◌≡◌, true, ◌+◌}
use Rattle.walsh.specs.Sums.{sum_to}
use Rattle.walsh.specs.Tests.{every}
use Rattle.bounds.specs.Places.{is_within}
use Rattle.places.proofs.is_other.Given as goal

abbrev pub invariant-loop-i : goal.invariant-loop-i
invariant-loop-i l = record {
  within : every (is_within l.upper l.g) l.i ≡ true;
  left : l.left + sum_to l.g l.i ≡ l.total;
}
