-- `step::other_part` meets its contract: the search that is left leads to the same part as the whole.
use Rattle.std.proofs.Common.{◌≡◌, ◌+◌, ◌-◌, ◌≤◌, ◌<◌}
use Rattle.walsh.specs.Sums.{sum_to}
use Rattle.step.specs.Advance.{other_of}
use Rattle.step.proofs.other_part.Given as goal

abbrev pub invariant-loop-i : goal.invariant-loop-i
invariant-loop-i l = record {
  some : 0 < l.i;
  within : l.i ≤ l.initial.i;
  under : l.under ≡ sum_to l.upper l.i;
  small : l.under < 65536;
  fits : l.rem ≤ l.under;
  total : l.rem + l.t ≡ l.initial.rem + l.initial.t;
  other : other_of l.upper l.parts (l.i - 1) l.rem l.t ≡ other_of l.upper l.parts (l.initial.i - 1) l.initial.rem l.initial.t;
}
