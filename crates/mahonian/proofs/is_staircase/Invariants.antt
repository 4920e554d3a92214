-- `mahonian::is_staircase` meets its contract: what is left gives the whole's answer.
use Rattle.std.proofs.Common.{◌≡◌, drop}
use Rattle.mahonian.specs.Staircase.{is_staircase}
use Rattle.mahonian.proofs.is_staircase.Given as goal

abbrev pub invariant-loop-i : goal.invariant-loop-i
invariant-loop-i l = is_staircase (drop l.i l.upper) ≡ is_staircase l.upper
