use Rattle.std.proofs.Common.{eqb, get_or, arith}
use Rattle.integrity.proofs.Places.{equals, many_more, many_all, byte_most}
use Rattle.integrity.proofs.pass.twin_zeros.Goals as goal

pub loop-i-preserved : goal.loop-i-preserved
loop-i-preserved c =
    let at = c.loop-i in
    let low = c.args.low.now in
    let high = c.args.high.now in
    let one = c.from-first.ensures in
    let other = c.from-second.ensures in (
      many_more (equals 0) low at.i 0 c.loop-i-test.true at.invariant.0 one,
      many_more (equals 0) high at.i 0 (omega (arith, c.loop-i-test.true, c.requires.even)) at.invariant.1 other,
      omega (arith, at.invariant.2, one, byte_most (eqb (get_or low at.i 0) 0)),
      omega (arith, at.invariant.3, other, byte_most (eqb (get_or high at.i 0) 0)),
    )

pub returns : goal.returns
returns c =
    let at = c.loop-i in (
      many_all (equals 0) c.args.low.now at.i _ c.loop-i-test.false at.invariant.0,
      many_all (equals 0) c.args.high.now at.i _ (omega (arith, c.loop-i-test.false, c.requires.even)) at.invariant.1,
    )
