-- `bounds::scan` meets its contract.
use Rattle.std.proofs.Common.{◌≡◌, ◌≤◌, ◌*◌, drop}
use Rattle.walsh.specs.Sums.{sum_to}
use Rattle.bounds.specs.Edition.{first_outside}
use Rattle.bounds.proofs.scan.Given as goal

abbrev pub invariant-loop-i : goal.invariant-loop-i
invariant-loop-i l = record {
  passed : first_outside (drop l.i l.upper) l.i ≡ first_outside l.upper 0;
  sum : l.all ≡ sum_to l.upper l.i;
  small : l.all ≤ 60 * l.i;
}
