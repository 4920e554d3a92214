-- `band::walk::down` meets its contract.
use Rattle.std.proofs.Common.{arith}
use Rattle.band.proofs.Rows.{down_left, part_fits}
use Rattle.band.proofs.walk.down.Goals as goal

pub overflow_sub-from : goal.overflow_sub-from
overflow_sub-from c =
    let p = c.requires in
    omega (arith, down_left _ _ _ p.1 p.2 c.args.from p.3, p.3.all, part_fits c.args.upper.now c.args.total c.args.k p.1 p.2)
