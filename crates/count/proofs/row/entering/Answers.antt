-- `count::row::entering` meets its contract.
use mathlib.Core.Path.{refl, sym, ◌∙◌}
use mathlib.Core.Bool.{false≢true}
use Prim.Native.Nat.{ℕ, ◌+◌, ◌-◌, ◌≤◌, ◌<◌}
use native.Mathlib.Omega.{arith}
use mir.Val.{Fits}
use mir.Syntax.{w64}
use Rattle.band.proofs.Numbers.{fits_behind}
use Rattle.count.specs.Row.{RowCounts}
use Rattle.count.proofs.Rows.{at_total, entering_in}
use Rattle.count.proofs.row.entering.Goals as goal
use Rattle.count.proofs.row.entering.Goals.{Start, Then-enters}

fits_at : (c : Then-enters) → let a = c.args in Fits w64 (a.part.m + 1) × (a.part.m + 1 ≤ a.t)
fits_at c =
    let s = c in
    let p = s.requires in
    fits_behind s.args.part.row.low _ _ _ (p.3.entering c.if-enters.true) (at_total s.args.part _ p.0 p.1) s.args.part.passing.small

low_counts : (c : Start) → let a = c.args in RowCounts a.part.upper.now a.part.total a.cells.now a.part.k 0 (a.t - (a.part.m + 1) + 1)
low_counts c u b l h = c.requires.2 u b l (shorter c.args.t c.args.part.m u h)
  where
    shorter : (t m u : ℕ) → u < t - (m + 1) + 1 → u < t + 1
    shorter t m u h = omega arith

pub cell-requires : goal.cell-requires
cell-requires c =
    let s = c in
    let p = s.requires in
    (entering_in s.args.part _ p.0 p.1 (p.3.entering c.if-enters.true), low_counts (goal.at.cell-requires s).Start)

pub returns-then-enters : goal.returns-then-enters
returns-then-enters c = let e = c.cell.ensures in (e.1, λ _. e.0, λ h. absurd (false≢true (sym h ∙ c.if-enters.true)))

pub returns-else-enters : goal.returns-else-enters
returns-else-enters c = (omega arith, λ h. absurd (false≢true (sym c.if-enters.false ∙ h)), λ _. refl)

pub overflow_add-part : goal.overflow_add-part
overflow_add-part c = (fits_at (goal.at.overflow_add-part c).Then-enters).0

pub overflow_sub-t : goal.overflow_sub-t
overflow_sub-t c = (fits_at (goal.at.overflow_sub-t c).Then-enters).1
