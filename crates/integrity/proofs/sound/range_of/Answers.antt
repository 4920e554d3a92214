use Rattle.std.proofs.Common.{◌∙◌, arith}
use Rattle.integrity.proofs.Ranges.{least_more, most_more}
use Rattle.integrity.proofs.sound.range_of.Goals as goal

pub loop-x-preserved : goal.loop-x-preserved
loop-x-preserved c =
    let at = c.loop-x in
    let items = c.args.items.now in
    let l = c.loop-x-test.true in (
      c.min-least.ensures ∙ least_more items at.x-index l at.least (omega (arith, c.type_inv.items at.x-index)) at.invariant.0,
      c.max-most.ensures ∙ most_more items at.x-index l at.most at.invariant.1,
    )
