use Rattle.std.proofs.Common.{eqb, get_or, arith}
use Rattle.integrity.proofs.Places.{equals, many_more, byte_most}
use Rattle.integrity.proofs.pass.count.Goals as goal

pub loop-x-preserved : goal.loop-x-preserved
loop-x-preserved c =
    let at = c.loop-x in
    let os = c.args.orders.now in
    let one = c.from-hits.ensures in (
      many_more (equals c.args.order) os at.x-index 0 c.loop-x-test.true at.invariant.0 one,
      omega (arith, at.invariant.1, one, byte_most (eqb (get_or os at.x-index 0) c.args.order)),
    )
