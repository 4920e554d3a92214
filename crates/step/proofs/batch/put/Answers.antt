-- `step::batch::put` meets its contract.
use mathlib.Core.Path.{◌≡◌, ap, ◌∙◌}
use Prim.Native.Nat.{◌<◌}
use native.Mathlib.Omega.{arith}
use lib.ListN.{length, length-set}
use Rattle.step.specs.Run.{shown}
use Rattle.step.proofs.Runs.{shown_copied}
use Rattle.step.proofs.batch.put.Goals as goal
use Rattle.step.proofs.batch.put.Goals.{After-slice_known-2-1}

pub returns : goal.returns
returns c =
    let lay = c.lay in
    let start = c in
    let a = start.args in
    let apart = start.requires.1 in
    ap (shown a.front a.run) lay.ensures
    ∙ shown_copied a.front a.run apart a.cells.now a.out.now (omega (arith, start.requires.0, start.requires.2)) start.requires.3

-- the two parts lie within
inside_at : (c : After-slice_known-2-1) →
    let a = c.args in
    a.front.high < length c.lay.new.out
inside_at c =
    let size : length c.lay.new.out ≡ length c.args.out.now =
    c.lay.auto.out in
    omega (arith, c.requires.3)

pub lay-requires : goal.lay-requires
lay-requires c = let p = c.requires in (p.0, omega (arith, p.3))

pub bounds-out-low : goal.bounds-out-low
bounds-out-low c = omega (arith, inside_at (goal.at.bounds-out-low c).After-slice_known-2-1, c.requires.1)

pub bounds-out-high : goal.bounds-out-high
bounds-out-high c = simp length-set (inside_at (goal.at.bounds-out-high c).After-slice_known-2-1)
