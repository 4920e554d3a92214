-- `request::read_line` meets its contract.
use Rattle.request.proofs.Reading.{Reading}
use Rattle.request.proofs.read_line.Given as goal

abbrev pub invariant-loop-at : goal.invariant-loop-at
invariant-loop-at l = Reading l.s l.from l.upper l.number l.parts l.at
