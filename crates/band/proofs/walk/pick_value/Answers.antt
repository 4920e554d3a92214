use Rattle.std.proofs.Common.{ℕ, suc, ◌+◌, ◌-◌, ◌<◌, le_trans, arith}
use Rattle.walsh.specs.Sums.{sum}
use Rattle.walsh.specs.Order.{part_choices}
use Rattle.walsh.specs.Rank.{block_size}
use Rattle.walsh.proofs.Listing.{count_blocks}
use Rattle.walsh.proofs.Window.{sum_step}
use Rattle.band.specs.Walk.{Readable}
use Rattle.band.proofs.Runs.{run_choices, run_picks, run_readable, run_block}
use Rattle.band.proofs.Picks.{scan_first, scan_next, picked}
use Rattle.band.proofs.walk.pick_value.Goals as goal
use Rattle.band.proofs.walk.pick_value.Goals.{After-run_of-w, In-loop-size, Start}

-- the rank is below the sum of all blocks
below_at : (c : Start)
    → let a = c.args in
    a.rank < sum (block_size a.upper.now a.k a.rem a.t) (part_choices a.upper.now a.k a.rem)
below_at c = let a = c.args in omega (arith, count_blocks a.upper.now a.k a.rem a.t, c.requires.1)

first_at : (c : Start) → let a = c.args in 0 < part_choices a.upper.now a.k a.rem
first_at c =
    let a = c.args in
    scan_first (block_size a.upper.now a.k a.rem a.t) (part_choices a.upper.now a.k a.rem) a.rank (below_at c)

-- a further value, where the rank is not in this block
next_at : (c : In-loop-size)
    → let a = c.args in
    c.loop-size.i + 1 < part_choices a.upper.now a.k a.rem
next_at c =
    let s = c in
    let a = s.args in
    let l = c.loop-size in
    scan_next (block_size a.upper.now a.k a.rem a.t) (part_choices a.upper.now a.k a.rem) a.rank (below_at (goal.at.In-loop-size s).Start)
    l.i l.s l.invariant.0 l.invariant.1 (omega arith)

-- `block` may be called for value number i
asks_at : (c : After-run_of-w) (i : ℕ)
    → let a = c.args in
    let w = c.run_of-w.result in
    i < part_choices a.upper.now a.k a.rem
    → Readable w a.rem a.row a.cells.now × (i < suc w.high - w.low)
asks_at c i l =
    let s = c in
    let a = s.args in
    let w = c.run_of-w in (
      run_readable a.upper.now a.k a.rem a.t w.result w.ensures a.row a.cells.now s.requires.0,
      rw (run_choices a.upper.now a.k a.rem a.t w.result w.ensures) l,
    )

pub loop-size-init : goal.loop-size-init
loop-size-init c =
    let s = c in
    let a = s.args in
    let w = c.run_of-w in (
      first_at (goal.at.loop-size-init s).Start,
      omega arith,
      run_block a.upper.now a.k a.rem a.t w.result w.ensures a.row a.cells.now s.requires.0 0 c.block-size.result
          (first_at (goal.at.loop-size-init s).Start) c.block-size.ensures,
    )

pub loop-size-preserved : goal.loop-size-preserved
loop-size-preserved c =
    let s = c in
    let a = s.args in
    let l = c.loop-size in
    let w = c.run_of-w in
    let n = next_at (goal.at.loop-size-preserved c).In-loop-size in (
      n,
      omega (arith, sum_step (block_size a.upper.now a.k a.rem a.t) l.i),
      run_block a.upper.now a.k a.rem a.t w.result w.ensures a.row a.cells.now s.requires.0 (l.i + 1)
          c.block-size-in-loop-size.result n c.block-size-in-loop-size.ensures,
    )

pub value-requires : goal.value-requires
value-requires c =
    let k = asks_at (goal.at.value-requires c).After-run_of-w c.loop-size.i c.loop-size.invariant.0 in (le_trans k.0.high k.0.small, k.1)

pub returns : goal.returns
returns c =
    let a = c.args in
    let l = c.loop-size in
    let w = c.run_of-w in
    picked a.upper.now a.k a.rem a.t a.rank l.i c.value.result l.s l.invariant.0
    (run_picks a.upper.now a.k a.rem a.t w.result w.ensures l.i c.value.result c.value.ensures) l.invariant.1
    (omega arith)

pub block-size-requires : goal.block-size-requires
block-size-requires c = asks_at (goal.at.block-size-requires c).After-run_of-w 0 (first_at (goal.at.block-size-requires c).Start)

pub block-size-requires-in-loop-size : goal.block-size-requires-in-loop-size
block-size-requires-in-loop-size c =
    asks_at (goal.at.block-size-requires-in-loop-size c).After-run_of-w (c.loop-size.i + 1) (next_at (goal.at.block-size-requires-in-loop-size c).In-loop-size)
