-- `lines::put_lines` meets its contract.
use mathlib.Core.Path.{◌≡◌}
use lib.ListN.{length}
use Rattle.lines.proofs.Pieces.{Filling}
use Rattle.lines.proofs.put_lines.Given as goal

abbrev pub invariant-loop-s : goal.invariant-loop-s
invariant-loop-s l =
    (length l.parts ≡ length l.initial.parts) × Filling l.upper l.total l.serial l.count l.initial.out l.out l.parts l.s l.end l.pair
