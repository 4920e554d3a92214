-- `lines::end_len` meets its contract.
use native.Mathlib.Omega.{arith}
use Rattle.lines.proofs.Lined.{length_pair_end}
use Rattle.lines.proofs.end_len.Goals as goal

pub returns : goal.returns
returns c =
    let gain = rw c.from.ensures at c.digits.ensures in
    let loss = rw c.from-2.ensures at c.digits-2.ensures in
    (omega (arith, gain.0, loss.0, length_pair_end c.args.pair), omega (arith, gain.1, loss.1))
