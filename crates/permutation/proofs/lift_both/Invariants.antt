-- `permutation::lift_both` meets its contract. What the parts before place j are to lift is on the way to what all of them do.
use mathlib.Core.Path.{◌≡◌}
use lib.ListN.{length}
use Prim.Native.Nat.{◌+◌, ◌≤◌}
use Rattle.permutation.specs.Entries.{lifts}
use Rattle.permutation.proofs.lift_both.Given as goal

abbrev pub invariant-loop-j : goal.invariant-loop-j
invariant-loop-j l =
    (l.j ≤ length l.g) × (l.first + l.j ≤ 255) × (l.second + l.j ≤ 255)
    × (lifts l.g l.j l.first ≡ lifts l.g l.i l.x) × (lifts l.g l.j l.second ≡ lifts l.g l.i l.y)
