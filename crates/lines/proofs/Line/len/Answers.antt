use native.Mathlib.Omega.{arith}
use Rattle.lines.specs.Lines.{pair_end}
use Rattle.lines.proofs.Lined.{length_next, length_last, length_line}
use Rattle.lines.proofs.Line.len.Goals as goal

pub loop-part-preserved : goal.loop-part-preserved
loop-part-preserved c =
    let x = c.args.self in
    let next = length_next x.parts.now (pair_end x.pair) c.loop-part.part-index (omega arith) in
    let digits = rw c.from.ensures at c.digits.ensures in
    (omega (arith, digits.0, next), omega (arith, digits.1))

pub returns : goal.returns
returns c =
    let x = c.args.self in
    omega (arith, c.end_len.ensures.0, length_last x.parts.now (pair_end x.pair) c.loop-part.part-index (omega arith))

pub loop-part-init : goal.loop-part-init
loop-part-init c =
    let x = c.args.self in
    (omega (arith, length_line x.serial x.parts.now x.pair, c.digits-len.ensures.0), omega arith)
