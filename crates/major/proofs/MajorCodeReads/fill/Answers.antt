use Rattle.std.proofs.Common.{◌≡◌, ◌<◌, ◌-◌, ◌+◌, arith, length, get_or}
use Rattle.major.specs.Circle.{steps_down}
use Rattle.major.proofs.Drawing.{drawing_start, drawing_within, drawing_end, drawing_turn_lt, drawing_inside, drawing_turn}
use Rattle.major.proofs.MajorCodeReads.fill.Goals as goal
use Rattle.major.proofs.MajorCodeReads.fill.Goals.{After-from, After-steps_down-place}

pub loop-i-init : goal.loop-i-init
loop-i-init c =
    let out = c.args.out.now in
    drawing_start c.args.g.now _ out c.requires.room c.requires.parts (c.all-left.ensures (length out) (omega arith))

-- t of the row
row : (c : After-from) → c.from.result ≡ get_or c.args.g.now (length c.loop-i.out - c.loop-i.i) 0
row c =
    let same : length c.args.g.now - (c.loop-i.i - 1) ≡ length c.loop-i.out - c.loop-i.i = omega arith in
    rw same at c.from.ensures

pub steps_down-place-requires : goal.steps_down-place-requires
steps_down-place-requires c =
    let g = c.args.g.now in
    let d = c.loop-i.invariant in
    let lt = drawing_turn_lt g d c.loop-i-test.true _ (row (goal.at.steps_down-place-requires c).After-from) in
    (omega arith, omega (arith, drawing_within g d), omega arith)

step : (c : After-steps_down-place) → c.steps_down-place.result ≡ steps_down c.loop-i.i c.loop-i.place c.from.result
step c =
    let back : c.loop-i.i - 1 + 1 ≡ c.loop-i.i = omega arith in
    rw back at c.steps_down-place.ensures

-- the place is one of those that are left
inside : (c : After-steps_down-place) → c.steps_down-place.result < 25
inside c =
    let d = c.loop-i.invariant in
    omega (arith, d.holds.few, drawing_inside c.args.g.now d c.loop-i-test.true _ (row (goal.at.After-steps_down-place c).After-from) _ (step c))

pub at-requires : goal.at-requires
at-requires c = inside (goal.at.at-requires c).After-steps_down-place

pub without-left-requires : goal.without-left-requires
without-left-requires c = inside (goal.at.without-left-requires c).After-steps_down-place

pub loop-i-preserved : goal.loop-i-preserved
loop-i-preserved c =
    let before = (goal.at.loop-i-preserved c).After-steps_down-place in
    drawing_turn c.args.g.now c.loop-i.invariant c.loop-i-test.true _ (row (goal.at.loop-i-preserved c).After-from) _ (step before)
    _ _ c.at.ensures c.without-left.ensures

pub returns : goal.returns
returns c = drawing_end c.args.g.now c.loop-i.invariant c.loop-i-test.false _ c.at-2.ensures
