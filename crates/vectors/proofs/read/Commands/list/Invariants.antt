-- `vectors::read::Commands::list` meets its contract: each entry is read behind the one before it.
use Rattle.vectors.specs.Commands.{IsOnward}
use Rattle.vectors.proofs.read.Commands.list.Given as goal

abbrev pub invariant-loop-entry : goal.invariant-loop-entry
invariant-loop-entry g l = IsOnward l.fn.self l.self
