-- `lines::digits` meets its contract.
use Rattle.std.proofs.Common.{arith}
use Rattle.lines.proofs.Lengths.{length_power, length_serial}
use Rattle.lines.proofs.digits.Goals as goal

pub returns : goal.returns
returns c =
    let power = length_power c.ilog10.result c.args.n (omega arith) (omega arith) in
    (omega arith, omega (arith, length_serial c.args.n c.ranges.n.fits))
