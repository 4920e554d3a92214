-- `count::row::cell` meets its contract.
use native.Mathlib.Numerals.{lt-add-one}
use native.Mathlib.Omega.{arith}
use Rattle.count.proofs.row.cell.Goals as goal

pub returns : goal.returns
returns c =
    let p = c.requires in
    let h = p.1 c.args.t p.0 (omega arith) (lt-add-one _) in
    (h.0, omega (arith, h.0, h.1))

pub offset_bounds-cells-t : goal.offset_bounds-cells-t
offset_bounds-cells-t c = omega (arith, c.requires.0.high, c.args.part.passing.small)

pub bounds-cells-t : goal.bounds-cells-t
bounds-cells-t c = omega (arith, c.requires.0.high, c.args.part.passing.small)
