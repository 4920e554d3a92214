-- `integrity::pass::twin_zeros` meets its contract: the first i orders of both blocks are counted.
use Rattle.std.proofs.Common.{◌≡◌, ◌≤◌, take}
use Rattle.walsh.specs.Tests.{times}
use Rattle.integrity.proofs.pass.twin_zeros.Given as goal

abbrev pub invariant-loop-i : goal.invariant-loop-i
invariant-loop-i l =
    (l.first ≡ times 0 (take l.i l.low)) × (l.second ≡ times 0 (take l.i l.high)) × (l.first ≤ l.i) × (l.second ≤ l.i)
