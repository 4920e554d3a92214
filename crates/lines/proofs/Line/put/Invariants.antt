-- `lines::Line::put` meets its contract.
use Prim.Native.Nat.{◌+◌, ◌≤◌}
use lib.ListN.{length, drop}
use Rattle.lines.specs.Lines.{counts_then, pair_end}
use Rattle.lines.proofs.Lined.{Lined}
use Rattle.lines.proofs.Line.put.Given as goal

abbrev pub invariant-loop-part : goal.invariant-loop-part
invariant-loop-part l =
    (l.end + length (counts_then (drop l.part-index l.self.parts.now) (pair_end l.self.pair)) ≤ length l.out) × Lined l.self.parts.now (pair_end l.self.pair) l.initial.out l.out l.initial.end l.end l.part-index
