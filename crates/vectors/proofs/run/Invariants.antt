-- `vectors::run` ends: each command has a letter.
use Rattle.std.proofs.Common.{length}
use Rattle.vectors.proofs.run.Given as goal

abbrev pub decreases-loop-letter : goal.decreases-loop-letter
decreases-loop-letter l = length l.from.rest.now
