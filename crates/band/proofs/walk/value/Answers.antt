-- `band::walk::value` meets its contract.
use Rattle.band.specs.Walk.{in_run}
use Rattle.band.proofs.walk.value.Goals as goal

pub returns-then-w : goal.returns-then-w
unfolding in_run
returns-then-w c = simp c.if-w.true

pub returns-else-w : goal.returns-else-w
unfolding in_run
returns-else-w c = simp c.if-w.false
