-- `band::window::fill_span` meets its contract.
use Rattle.band.specs.Window.{FilledTo}
use Rattle.band.proofs.window.fill_span.Given as goal

abbrev pub invariant-loop-t : goal.invariant-loop-t
invariant-loop-t l =
    FilledTo l.part.upper.now l.part.total l.part.k l.t l.w l.cells
