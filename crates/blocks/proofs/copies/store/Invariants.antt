-- `blocks::copies::store` meets its contract.
use Rattle.std.proofs.Common.{◌≡◌, ◌++◌, take, drop}
use Rattle.blocks.proofs.copies.store.Given as goal

abbrev pub invariant-loop-i : goal.invariant-loop-i
invariant-loop-i g l = l.out ≡ take l.i l.from ++ drop l.i l.initial.out
