-- `lines::put_serial` meets its contract.
use mathlib.Core.Path.{sym}
use native.Mathlib.Omega.{arith}
use Rattle.lines.proofs.Appends.{joined, retold}
use Rattle.lines.proofs.Lengths.{decimal_myriad, length_myriad}
use Rattle.lines.proofs.put_serial.Goals as goal

-- room for the second pair, and for the last
pub put_two-middle-requires : goal.put_two-middle-requires
put_two-middle-requires c =
    let p = c.put_number-high.ensures in
    (omega arith, omega (arith, p.ends, p.size, c.requires, length_myriad c.args.n (omega arith)))

pub put_two-requires : goal.put_two-requires
put_two-requires c =
    let p = c.put_number-high.ensures in
    let q = c.put_two-middle.ensures in
    (omega arith, omega (arith, p.ends, p.size, q.ends, q.size, c.requires, length_myriad c.args.n (omega arith)))

pub returns : goal.returns
returns c =
    retold (sym (decimal_myriad c.args.n (omega arith)))
    (joined c.put_number-high.ensures (joined c.put_two-middle.ensures c.put_two.ensures))

pub put_number-high-requires : goal.put_number-high-requires
put_number-high-requires c = omega (arith, c.requires, length_myriad c.args.n (omega arith))
