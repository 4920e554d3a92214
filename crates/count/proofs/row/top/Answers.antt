use Rattle.std.proofs.Common.{◌≡◌, ◌+◌, ◌-◌, ◌≤◌, ◌<◌, ◌∙◌, length, arith}
use native.Mathlib.Nat.{le_antisymm}
use Rattle.walsh.specs.Sums.{sum}
use Rattle.walsh.specs.Order.{count}
use Rattle.walsh.proofs.Window.{sum_step, sum_at}
use Rattle.band.specs.Band.{cap}
use Rattle.band.proofs.Numbers.{suc_le, lt_cap}
use Rattle.count.specs.Row.{Within}
use Rattle.count.proofs.Rows.{first_at, top_within, top_slid}
use Rattle.count.proofs.row.top.Goals as goal
use Rattle.count.proofs.row.top.Goals.{After-cell-w, After-max-first, else-careful-via-then-careful+else-w-gt-LIMIT, else-careful-via-else-careful}

-- the first sum of the window
module _ (c : After-max-first) where
  first_is : c.max-first.result ≡ c.args.part.row.low + (c.args.part.next.high - c.args.part.m - c.args.part.row.low)
  first_is = omega (arith, c.max-first.ensures, c.saturating_sub.ensures)

  first_facts : (c.args.part.row.low ≤ c.max-first.result) × (c.max-first.result ≤ c.args.part.row.high + 1)
      × (c.args.part.next.high - c.args.part.m ≤ c.max-first.result)
  first_facts = first_at c.args.part c.max-first.result first_is

-- the window with one cell more
sum_at_next : (c : After-cell-w)
    → let a = c.args in
    let f = count a.part.upper.now a.part.k in
    c.loop-t.w + c.cell-w.result + sum f c.max-first.result ≡ sum f (c.loop-t.t + 1)
sum_at_next c =
    let a = c.args in
    let l = c.loop-t in
    omega (arith, l.invariant.sum, c.cell-w.ensures.0, sum_step (count a.part.upper.now a.part.k) l.t)

within_at : (c : After-cell-w)
    → let a = c.args in
    let w = c.loop-t.w + c.cell-w.result in
    (Within a.part.upper.now a.part.total (a.part.k + 1) → w < cap) × (cap ≤ w → cap ≤ count a.part.upper.now (length a.part.upper.now) a.part.total)
within_at c =
    let a = c.args in
    top_within a.part _ _ _ (sum_at_next c) (first_facts (goal.at.After-cell-w c).After-max-first).2
    (suc_le c.loop-t-test.true)

pub returns-then-w-gt-LIMIT : goal.returns-then-w-gt-LIMIT
returns-then-w-gt-LIMIT c = (within_at (goal.at.returns-then-w-gt-LIMIT c).After-cell-w).1 (suc_le c.if-w-gt-LIMIT.true)

pub loop-t-preserved : goal.loop-t-preserved
loop-t-preserved c = record {
  small = elim c.else-careful.branch [
    | else-careful-via-then-careful+else-w-gt-LIMIT w ↦ lt_cap w.if-w-gt-LIMIT.false
    | else-careful-via-else-careful w ↦ (within_at (goal.at.loop-t-preserved c).After-cell-w).0 (c.requires.1 w.if-careful.false)
  ];
  sum = sum_at_next (goal.at.loop-t-preserved c).After-cell-w;
}

pub returns : goal.returns
returns c =
    let a = c.args in
    let l = c.loop-t in
    let first = (goal.at.returns c).After-max-first in
    let end : l.t ≡ a.part.row.high + 1 = le_antisymm (l.auto.t-end (first_facts first).1) c.loop-t-test.false in
    let e = l.invariant.sum ∙ sum_at (count a.part.upper.now a.part.k) _ _ end in
    (top_slid a.part _ _ (first_is first) e, l.invariant.small)
