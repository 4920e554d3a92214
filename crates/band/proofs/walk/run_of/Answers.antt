-- `band::walk::run_of` meets its contract.
use Rattle.band.specs.Walk.{run_of}
use Rattle.band.proofs.walk.run_of.Goals as goal

pub returns : goal.returns
unfolding run_of
returns c = simp (c.saturating_sub.ensures, c.min.ensures, c.is_odd.ensures, c.from.ensures, c.requires.1)
