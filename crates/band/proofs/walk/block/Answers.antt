-- `band::walk::block` meets its contract. The index stands between those of the run's two ends.
use Rattle.std.proofs.Common.{ℕ, ◌+◌, ◌-◌, ◌<◌, ◌≤◌, length, arith}
use Rattle.band.proofs.Runs.{in_run_lem}
use Rattle.band.proofs.walk.block.Goals as goal
use Rattle.band.proofs.walk.block.Goals.{After-value}

value_at : (c : After-value) → let w = c.args.w in (w.low ≤ c.value.result) × (c.value.result ≤ w.high)
value_at c = let s = c in rw c.value.ensures (in_run_lem s.args.w s.args.i s.requires.1)

-- the index is small, and inside
index_at : (c : After-value)
    → let a = c.args in
    let i = a.row.start + (a.rem - c.value.result - a.row.low) in
    (i ≤ 6399) × (i < length a.cells.now)
index_at c =
    let p = c.requires.0 in
    let v = value_at c in inside c.args.row.low v.0 v.1 p.small p.start p.room
  where
    inside : {lo v hi rem start n : ℕ} (low : ℕ) → lo ≤ v → v ≤ hi → rem ≤ 255 → start ≤ 6144 → start + (rem - lo - low) < n
        → (start + (rem - v - low) ≤ 6399) × (start + (rem - v - low) < n)
    inside low l h s a r = (omega arith, omega arith)

pub overflow_sub-result : goal.overflow_sub-result
overflow_sub-result c = omega (arith, (value_at (goal.at.overflow_sub-result c).After-value).1, c.requires.0.high)

pub overflow_sub-result-2 : goal.overflow_sub-result-2
overflow_sub-result-2 c = omega (arith, (value_at (goal.at.overflow_sub-result-2 c).After-value).1, c.requires.0.low)

pub bounds-cells-row : goal.bounds-cells-row
bounds-cells-row c = (index_at (goal.at.bounds-cells-row c).After-value).1
