use Rattle.std.proofs.Common.{◌≡◌, refl, ◌∙◌, ◌-◌, ◌+◌, ◌≤◌, ◌<◌, arith, length}
use Rattle.major.specs.Circle.{steps_down}
use Rattle.major.specs.Tally.{Tallies}
use Rattle.major.proofs.Circle.{steps_lt}
use Rattle.major.proofs.Finding.{front_up_to, place_at, code_start, next_le, within, among, tallies_turn, place_is, place_lt, code_turn}
use Rattle.major.proofs.Finding.{code_found, index_found}
use Rattle.major.proofs.MajorCodeReads.find.Goals as goal
use Rattle.major.proofs.MajorCodeReads.find.Goals.{After-from-x, After-without-front, After-up_to-place, After-steps_down-t}

pub loop-i-init : goal.loop-i-init
loop-i-init c =
    let pre = c.requires in
    code_start c.args.p.now pre.few pre.sheets c.args.cells.now _ pre.some pre.room c.all-front.ensures

-- a sheet is 25 at most
small : (c : After-from-x) → c.from-x.result < 26
small c =
    let pre = c.requires in
    omega (arith, pre.few, within c.args.p.now pre.few pre.sheets c.loop-i.invariant c.loop-i-test.true _ c.from-x.ensures)

pub without-front-requires : goal.without-front-requires
without-front-requires c =
    let pre = c.requires in
    let x = (goal.at.without-front-requires c).After-from-x in
    (small x, (_, among c.args.p.now pre.few pre.sheets c.loop-i.invariant c.loop-i-test.true _ c.from-x.ensures))

-- the sheets in front of the one of the turn
in_front : (c : After-without-front) → Tallies c.without-front.result (front_up_to c.args.p.now (c.loop-i.i - 1))
in_front c =
    let p = c.args.p.now in
    let pre = c.requires in
    let found = c.loop-i.invariant in
    let x = c.from-x.ensures in
    tallies_turn p pre.few pre.sheets found c.loop-i-test.true _ x
    (c.without-front.ensures _ (among p pre.few pre.sheets found c.loop-i-test.true _ x))

pub up_to-place-requires : goal.up_to-place-requires
up_to-place-requires c = small (goal.at.up_to-place-requires c).After-from-x

place : (c : After-up_to-place) → c.up_to-place.result ≡ place_at c.args.p.now (c.loop-i.i - 1)
place c =
    let pre = c.requires in
    let at = goal.at.After-up_to-place c in
    c.up_to-place.ensures _ (in_front at.After-without-front)
    ∙ place_is c.args.p.now pre.few pre.sheets c.loop-i.invariant c.loop-i-test.true _ c.from-x.ensures

fits : (c : After-up_to-place) → (c.loop-i.next ≤ c.loop-i.i) × (c.up_to-place.result < c.loop-i.i)
fits c =
    let p = c.args.p.now in
    let pre = c.requires in
    let found = c.loop-i.invariant in
    let x = c.from-x.ensures in
    (next_le p pre.few pre.sheets found, omega (arith, place c, place_lt p pre.few pre.sheets found c.loop-i-test.true _ x))

pub steps_down-t-requires : goal.steps_down-t-requires
steps_down-t-requires c =
    let (next, place) = fits (goal.at.steps_down-t-requires c).After-up_to-place in
    (omega arith, omega (arith, next), omega (arith, place))

step : (c : After-steps_down-t) → c.steps_down-t.result ≡ steps_down c.loop-i.i c.loop-i.next c.up_to-place.result
step c =
    let back : c.loop-i.i - 1 + 1 ≡ c.loop-i.i = omega arith in
    rw back at c.steps_down-t.ensures

-- a turn is less than its row
turn_lt : (c : After-steps_down-t) → c.steps_down-t.result < c.loop-i.i
turn_lt c =
    let (next, place) = fits (goal.at.After-steps_down-t c).After-up_to-place in
    rw (step c) (steps_lt c.loop-i.i c.loop-i.next c.up_to-place.result next place)

pub overflow_cast-cells : goal.overflow_cast-cells
overflow_cast-cells c = omega (arith, turn_lt (goal.at.overflow_cast-cells c).After-steps_down-t)

pub overflow_cast-sum : goal.overflow_cast-sum
overflow_cast-sum c = omega (arith, turn_lt (goal.at.overflow_cast-sum c).After-steps_down-t)

pub overflow_add-sum : goal.overflow_add-sum
overflow_add-sum c = omega (arith, turn_lt (goal.at.overflow_add-sum c).After-steps_down-t)

pub loop-i-preserved : goal.loop-i-preserved
loop-i-preserved c =
    let pre = c.requires in
    let at = goal.at.loop-i-preserved c in
    let cell : length c.args.p.now - 1 - (c.loop-i.i - 1) ≡ length c.args.p.now - c.loop-i.i = omega arith in
    rw cell
    (code_turn c.args.p.now pre.few pre.sheets c.loop-i.invariant c.loop-i-test.true _ c.from-x.ensures _ _ _ _
    (in_front at.After-without-front) (place at.After-up_to-place) (step at.After-steps_down-t) (turn_lt at.After-steps_down-t) refl)

pub returns-clause-parts : goal.returns-clause-parts
returns-clause-parts c = code_found c.args.p.now c.requires.few c.requires.sheets c.loop-i.invariant c.loop-i-test.false

pub returns-clause-total : goal.returns-clause-total
returns-clause-total c = index_found c.args.p.now c.requires.few c.requires.sheets c.loop-i.invariant c.loop-i-test.false
