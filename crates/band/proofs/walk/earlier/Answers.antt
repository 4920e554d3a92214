use Rattle.std.proofs.Common.{◌≡◌, ℕ, suc, ◌+◌, ◌<◌, ◌≤◌, ◌∙◌, lt_trans, arith}
use Rattle.walsh.specs.Sums.{sum}
use Rattle.walsh.specs.Order.{least, most, is_odd, part_choices}
use Rattle.walsh.specs.Rank.{part_index, block_size}
use Rattle.walsh.proofs.Lists.{index_lt, sum_mono}
use Rattle.walsh.proofs.Listing.{count_blocks}
use Rattle.walsh.proofs.Window.{sum_at, sum_step}
use Rattle.band.specs.Band.{cap}
use Rattle.band.proofs.Numbers.{below_256}
use Rattle.band.proofs.Runs.{run_ends, run_choices, run_index, run_readable, run_block}
use Rattle.band.proofs.walk.earlier.Goals as goal
use Rattle.band.proofs.walk.earlier.Goals.{After-block-s, After-index-steps}

-- the steps are the value's number, which is below the number of values
steps_at : (c : After-index-steps)
    → let a = c.args in
    (c.index-steps.result ≡ part_index a.upper.now a.k a.rem a.t a.v) × (c.index-steps.result < part_choices a.upper.now a.k a.rem)
steps_at c =
    let s = c in
    let a = s.args in
    let same = c.index-steps.ensures ∙ run_index a.upper.now a.k a.rem a.t c.run_of-w.result c.run_of-w.ensures
    a.v in
    let b = index_lt (least a.upper.now a.k a.rem) (most a.upper.now a.k a.rem) (is_odd a.t) a.v s.requires.1 s.requires.2 in
    (same, rw same b)

-- the cell that is read is the block, and the sum with it is within the limit
block_at : (c : After-block-s)
    → let a = c.args in
    let f = block_size a.upper.now a.k a.rem a.t in
    let i = c.loop-i.i in
    (c.block-s.result ≡ f i) × (sum f (i + 1) ≡ sum f i + f i) × (sum f (i + 1) < cap)
block_at c =
    let s = c in
    let a = s.args in
    let f : ℕ → ℕ = block_size a.upper.now a.k a.rem a.t in
    let i = c.loop-i.i in
    let n = steps_at (goal.at.After-block-s c).After-index-steps in
    let l : i < c.index-steps.result = omega arith in
    let w = c.run_of-w in
    let h = s.requires.0 in
    let is = run_block a.upper.now a.k a.rem a.t w.result w.ensures a.row a.cells.now h i c.block-s.result
    (lt_trans l n.1) c.block-s.ensures in
    let more = sum_mono f (i + 1) (part_choices a.upper.now a.k a.rem) (next l n.1) in
    let fits = run_readable a.upper.now a.k a.rem a.t w.result w.ensures a.row a.cells.now h in
    let all = (h.table.holds (suc a.k) h.inside a.rem h.band (below_256 fits.small)).1 in
    (is, sum_step f i, under more (count_blocks a.upper.now a.k a.rem a.t) all)
  where
    next : {i x n : ℕ} → i < x → x < n → i + 1 ≤ n
    next p q = omega arith

    under : {x y z m : ℕ} → x ≤ y → y ≡ z → z < m → x < m
    under p q r = omega arith

pub index-steps-requires : goal.index-steps-requires
index-steps-requires c =
    let s = c in
    let a = s.args in
    let e = run_ends a.upper.now a.k a.rem a.t c.run_of-w.result c.run_of-w.ensures in
    (rw e.0 s.requires.1, rw e.1 s.requires.2)

pub block-s-requires : goal.block-s-requires
block-s-requires c =
    let s = c in
    let a = s.args in
    let w = c.run_of-w in
    let l : c.loop-i.i < c.index-steps.result = omega arith in (
      run_readable a.upper.now a.k a.rem a.t w.result w.ensures a.row a.cells.now s.requires.0,
      rw (run_choices a.upper.now a.k a.rem a.t w.result w.ensures) (lt_trans l (steps_at (goal.at.block-s-requires c).After-index-steps).1),
    )

pub returns : goal.returns
returns c =
    let l = c.loop-i in
    let a = c.args in
    let n = steps_at (goal.at.returns c).After-index-steps in
    l.invariant ∙ sum_at (block_size a.upper.now a.k a.rem a.t) l.i (part_index a.upper.now a.k a.rem a.t a.v)
    (omega arith)

pub overflow_add-s : goal.overflow_add-s
overflow_add-s c =
    let b = block_at (goal.at.overflow_add-s c).After-block-s in omega (arith, b.0, b.1, b.2, c.loop-i.invariant)

pub loop-i-preserved : goal.loop-i-preserved
loop-i-preserved c =
    let b = block_at (goal.at.loop-i-preserved c).After-block-s in omega (arith, b.0, b.1, c.loop-i.invariant)
