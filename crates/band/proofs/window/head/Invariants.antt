-- `band::window::head` meets its contract.
use Rattle.std.proofs.Common.{◌<◌}
use Rattle.band.specs.Band.{cap}
use Rattle.band.specs.Window.{Slid}
use Rattle.band.proofs.window.head.Given as goal

abbrev pub invariant-loop-t : goal.invariant-loop-t
invariant-loop-t l = (l.w < cap) × Slid l.part.upper.now l.part.total l.part.k l.t l.w
