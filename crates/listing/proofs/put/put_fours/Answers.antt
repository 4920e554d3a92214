use Rattle.std.proofs.Common.{ap, ◌∙◌, ◌-◌, arith}
use native.Mathlib.Nat.{sub_self}
use Rattle.listing.specs.Bytes.{laid}
use Rattle.listing.proofs.Laid.{laid_join}
use Rattle.listing.proofs.put.put_fours.Goals as goal

pub loop-i-init : goal.loop-i-init
unfolding laid
loop-i-init c = (rw sub_self, omega arith)

pub loop-i-preserved : goal.loop-i-preserved
loop-i-preserved c =
    let l = c.loop-i in
    let a = c.args in (
      c.put_four.ensures
          ∙ ap (laid a.g.now (l.i - 4) 4) l.invariant.0
          ∙ laid_join a.g.now a.out.now (l.i - 4) l.i 4 _ _ (omega arith) (omega arith),
      omega arith,
    )
