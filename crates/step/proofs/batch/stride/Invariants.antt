-- `step::batch::stride` meets its contract: the parts are those after as many steps as are made.
use mathlib.Core.Path.{◌≡◌}
use Prim.Native.Nat.{◌-◌, ◌≤◌}
use lib.ListN.{length}
use Rattle.step.specs.Stride.{turns_of}
use Rattle.step.proofs.batch.stride.Given as goal

abbrev pub invariant-loop-made : goal.invariant-loop-made
invariant-loop-made l =
    (l.made ≤ l.steps) × (length l.parts ≡ length l.initial.parts) × (l.parts ≡ turns_of l.upper l.total l.initial.parts l.made)

abbrev pub decreases-loop-made : goal.decreases-loop-made
decreases-loop-made l = l.steps - l.made
