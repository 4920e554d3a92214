-- `lines::Line::len` meets its contract.
use mathlib.Core.Path.{◌≡◌}
use Prim.Native.Nat.{◌+◌, ◌*◌, ◌≤◌}
use lib.ListN.{length, drop}
use Rattle.lines.specs.Lines.{counts_then, pair_end, copy_line}
use Rattle.lines.proofs.Line.len.Given as goal

abbrev pub invariant-loop-part : goal.invariant-loop-part
invariant-loop-part l =
    (l.len + length (counts_then (drop l.part-index l.self.parts.now) (pair_end l.self.pair)) ≡ length (copy_line l.self.serial l.self.parts.now l.self.pair)) × (l.len ≤ 20 + 21 * l.part-index)
