use native.Mathlib.Omega.{arith}
use lib.ListN.{length-set}
use Rattle.lines.specs.Lines.{pair_end}
use Rattle.lines.proofs.Appends.{one}
use Rattle.lines.proofs.Lined.{lined_none, lined_next, lined_end, length_next, length_last, length_line}
use Rattle.lines.proofs.Line.put.Goals as goal

pub loop-part-init : goal.loop-part-init
loop-part-init c =
    let p = c.put_serial-end in
    let line = length_line c.args.self.serial c.args.self.parts.now c.args.self.pair in
    (omega (arith, p.ensures.ends, p.ensures.size, line, c.requires), lined_none _ _ _ _)

pub put_number-end-requires : goal.put_number-end-requires
put_number-end-requires c =
    let l = c.loop-part in
    let x = c.args.self in
    let next = length_next x.parts.now (pair_end x.pair) l.part-index (omega arith) in
    rw c.from.ensures (omega (arith, length-set l.out l.end 32, next))

pub loop-part-preserved : goal.loop-part-preserved
loop-part-preserved c =
    let l = c.loop-part in
    let x = c.args.self in
    let next = length_next x.parts.now (pair_end x.pair) l.part-index (omega arith) in
    let p = rw c.from.ensures at c.put_number-end.ensures in (
      omega (arith, p.ends, p.size, length-set l.out l.end 32, next),
      lined_next l.invariant.1 (omega arith) (one l.out l.end 32 (omega (arith, next))) p,
    )

pub put_end-requires : goal.put_end-requires
put_end-requires c =
    let x = c.args.self in
    omega (arith, length_last x.parts.now (pair_end x.pair) c.loop-part.part-index (omega arith))

pub returns : goal.returns
returns c =
    let x = c.args.self in
    lined_end x.serial x.pair c.put_serial-end.ensures c.loop-part.invariant.1 (omega arith) c.put_end.ensures

pub put_serial-end-requires : goal.put_serial-end-requires
put_serial-end-requires c = omega (arith, length_line c.args.self.serial c.args.self.parts.now c.args.self.pair, c.requires)

pub bounds-out-end : goal.bounds-out-end
bounds-out-end c =
    let x = c.args.self in
    omega (arith, length_next x.parts.now (pair_end x.pair) c.loop-part.part-index (omega arith))
