-- `step::batch::store` meets its contract: the first i cells are written.
use Rattle.std.proofs.Common.{◌≡◌, ◌++◌, take, drop}
use Rattle.step.proofs.batch.store.Given as goal

abbrev pub invariant-loop-i : goal.invariant-loop-i
invariant-loop-i l = l.out ≡ take l.i l.cells ++ drop l.i l.initial.out
