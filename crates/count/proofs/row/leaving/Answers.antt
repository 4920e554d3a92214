-- `count::row::leaving` meets its contract.
use Rattle.count.proofs.Rows.{leaving_in, passed_none}
use Rattle.count.proofs.row.leaving.Goals as goal

pub cell-requires : goal.cell-requires
cell-requires c =
    let p = c.requires in
    (leaving_in c.args.part _ p.0 p.1 (p.3.leaving c.if-leaves.true), p.2)

pub returns-else-leaves : goal.returns-else-leaves
returns-else-leaves c =
    let p = c.requires in
    passed_none c.args.part c.args.t p.0 p.1 (p.3.passed c.if-leaves.false)

pub returns-then-leaves : goal.returns-then-leaves
returns-then-leaves c = c.cell.ensures.0
