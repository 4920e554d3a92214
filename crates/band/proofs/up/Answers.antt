-- `band::up` meets its contract.
use Rattle.std.proofs.Common.{◌+◌, ◌*◌, ◌≤◌, get_or, arith}
use Rattle.band.proofs.Rows.{row_ends, row_fits, row_small}
use Rattle.band.proofs.up.Goals as goal
use Rattle.band.proofs.up.Goals.{Start}

row_at : (c : Start)
    → let f = c.args.from in
    (f.low ≤ f.high) × (f.high ≤ c.args.total) × (f.start ≤ 256 * c.args.k) × (f.left + get_or c.args.upper.now c.args.k 0 ≤ f.all)
row_at c =
    let a = c.args in
    let p = c.requires in
    let e = row_ends _ _ _ p.2 p.3 a.from p.4 in
    (e.0, e.1, row_small _ _ _ p.2 p.3 a.from p.4 p.1, row_fits _ _ _ p.2 p.3 a.from p.4)

pub overflow_add-from-2 : goal.overflow_add-from-2
overflow_add-from-2 c = let k = row_at (goal.at.overflow_add-from-2 c).Start in omega arith

pub overflow_add-from-3 : goal.overflow_add-from-3
overflow_add-from-3 c = let k = row_at (goal.at.overflow_add-from-3 c).Start in omega arith

pub row_of-requires : goal.row_of-requires
row_of-requires c = let k = row_at (goal.at.row_of-requires c).Start in omega arith
