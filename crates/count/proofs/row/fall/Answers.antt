use Rattle.std.proofs.Common.{◌≡◌, ℕ, ◌+◌, ◌-◌, ◌≤◌, ◌<◌, subst, arith}
use native.Mathlib.Nat.{le_trans}
use Rattle.band.specs.Band.{cap}
use Rattle.band.proofs.Numbers.{below_256, lt_cap, suc_le}
use Rattle.band.proofs.Slides.{moved_within}
use Rattle.count.specs.Row.{Passed, Enters, Moved}
use Rattle.count.proofs.Rows.{at_total, leaving_most, moves, stored}
use Rattle.count.proofs.row.fall.Goals as goal
use Rattle.count.proofs.row.fall.Goals.{After-moved-w, In-loop-t, else-careful-via-then-careful+else-w-gt-LIMIT, else-careful-via-else-careful}

-- the sum is one of the row that is written
module _ (c : In-loop-t) where
  abbrev at : ℕ
  at = c.loop-t.t - 1

  low_at : c.args.part.next.low ≤ at
  low_at = omega (arith, c.requires.0.low)

  high_at : at ≤ c.args.part.next.high
  high_at = omega (arith, c.requires.0.high, c.loop-t.invariant.high)

  small_at : at ≤ 255
  small_at = le_trans (at_total c.args.part _ low_at high_at) c.args.part.passing.small

  passed_at : Passed c.args.part.upper.now c.args.part.total c.args.part.k (at + 1) c.loop-t.w c.loop-t.cells
  passed_at =
      let back : c.loop-t.t ≡ at + 1 = omega arith in
      subst (λ (t : ℕ). Passed c.args.part.upper.now c.args.part.total c.args.part.k t c.loop-t.w c.loop-t.cells) back c.loop-t.invariant.passed

  enters_at : Enters c.args.part.row c.args.part.m at c.args.enters
  enters_at = c.requires.0.entering _ (omega arith) (omega (arith, c.loop-t.invariant.high))

pub leaving-x-requires : goal.leaving-x-requires
leaving-x-requires c =
    let i = (goal.at.leaving-x-requires c).In-loop-t in
    let l = passed_at i in
    (low_at i, high_at i, l.below, c.requires.0.leaving _ (omega arith) (omega (arith, c.loop-t.invariant.high)))

pub entering-y-requires : goal.entering-y-requires
entering-y-requires c =
    let i = (goal.at.entering-y-requires c).In-loop-t in
    let l = passed_at i in
    (low_at i, high_at i, l.below, enters_at i)

-- the window's next number
moved_at : (c : After-moved-w)
    → let a = c.args in
    Moved a.part.upper.now a.part.total a.part.k (at (goal.at.After-moved-w c).In-loop-t) c.moved-w.result
moved_at c =
    let i = (goal.at.After-moved-w c).In-loop-t in
    let a = c.args in
    let l = c.loop-t in
    let x = c.leaving-x in
    let y = c.entering-y in
    moves a.part _ (low_at i) (high_at i) l.w l.cells (passed_at i) a.enters x.result
    y.result _ (enters_at i) x.ensures y.ensures.1 y.ensures.2
    (moved_within c.moved-w.ensures c.moved-w.type_inv
    (leaving_most a.part _ (low_at i) (high_at i) l.w l.cells (passed_at i) x.result
    x.ensures) l.invariant.passed.small y.ensures.0)

pub returns-then-w-gt-LIMIT : goal.returns-then-w-gt-LIMIT
returns-then-w-gt-LIMIT c = (moved_at (goal.at.returns-then-w-gt-LIMIT c).After-moved-w).over (suc_le c.if-w-gt-LIMIT.true)

pub loop-t-preserved : goal.loop-t-preserved
loop-t-preserved c =
    let i = (goal.at.loop-t-preserved c).In-loop-t in
    let a = c.args in
    let l = c.loop-t in
    let v = moved_at (goal.at.loop-t-preserved c).After-moved-w in
    let small : c.moved-w.result < cap = elim c.else-careful.branch [
      | else-careful-via-then-careful+else-w-gt-LIMIT w ↦ lt_cap w.if-w-gt-LIMIT.false
      | else-careful-via-else-careful w ↦ v.within (c.requires.2 w.if-careful.false)
    ] in record {
      high = omega (arith, l.invariant.high);
      low = omega (arith, l.invariant.low);
      passed = stored a.part _ (low_at i) (high_at i) l.w l.cells (passed_at i) _ (below_256 (small_at i))
          v.slid small;
    }

pub returns : goal.returns
returns c =
    let l = c.loop-t in
    let a = c.args in
    let e : l.t ≡ c.min.result = omega (arith, l.invariant.high, l.invariant.low, c.min.ensures) in
    (c.min.ensures, subst (λ (t : ℕ). Passed a.part.upper.now a.part.total a.part.k t l.w l.cells) e l.invariant.passed)
