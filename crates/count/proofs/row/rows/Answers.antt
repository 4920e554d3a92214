use Rattle.std.proofs.Common.{◌≡◌, ◌+◌, ◌≤◌, refl, ◌∙◌, arith, length-set}
use Rattle.walsh.specs.Sums.{sum_to}
use Rattle.count.specs.Row.{IsEnds}
use Rattle.count.proofs.Rows.{ends_first, left_fits, ends_next, first_row_lem}
use Rattle.count.proofs.row.rows.Goals as goal
use Rattle.count.proofs.row.rows.Goals.{After-ends_of-next, After-from-m}

pub loop-k-init : goal.loop-k-init
loop-k-init c =
    let a = c.args in
    let e = c.ends_of-row.ensures in record {
      long = length-set a.cells.now 0 1 ∙ c.told-cells;
      left = refl;
      ends = ends_first a.shape.upper.now a.shape.total a.shape.all c.ends_of-row.result c.args.shape.shaped.all_is e.0 e.1;
      row = first_row_lem a.shape.upper.now a.shape.total a.cells.now c.told-cells;
    }

-- the bounds so far, and the next
left_at : (c : After-from-m)
    → let a = c.args in
    let left = c.loop-k.left + c.from-m.result in
    (left ≡ sum_to a.shape.upper.now (c.loop-k.k + 1)) × (left ≤ a.shape.all)
left_at c =
    let l = c.loop-k in
    left_fits c.args.shape.upper.now l.k l.left c.from-m.result c.args.shape.all c.loop-k-test.true l.invariant.left c.from-m.ensures c.args.shape.shaped.all_is

next_at : (c : After-ends_of-next)
    → let a = c.args in
    IsEnds a.shape.upper.now a.shape.total (c.loop-k.k + 1) c.ends_of-next.result
next_at c =
    let e = c.ends_of-next.ensures in
    ends_next c.args.shape.upper.now c.args.shape.total (c.loop-k.k + 1) _ c.args.shape.all c.ends_of-next.result
    c.args.shape.shaped.all_is (left_at (goal.at.After-ends_of-next c).After-from-m).0 e.0 e.1

pub overflow_add-left : goal.overflow_add-left
overflow_add-left c = let q = (left_at (goal.at.overflow_add-left c).After-from-m).1 in omega arith

pub ends_of-next-requires : goal.ends_of-next-requires
ends_of-next-requires c = (left_at (goal.at.ends_of-next-requires c).After-from-m).1
