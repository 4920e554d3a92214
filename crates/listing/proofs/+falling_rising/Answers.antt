use mathlib.Core.Path.{refl, sym, ◌∙◌}
use Prim.Native.Nat.{ℕ, suc, ◌+◌, ◌-◌, ◌<◌}
use native.Mathlib.Omega.{arith}
use Rattle.listing.proofs.Turns.{Turns, Turn, Part, single_room, walked_single, turns_begin, turns_at, turns_more}
use Rattle.listing.proofs.Turns.{turn_within, walk_shorter, part_begins, part_done, rising_turn, falling_turn}
use Rattle.listing.proofs.+falling_rising.Goals as goal
use Rattle.listing.proofs.+falling_rising.Goals.{falling-After-min-most, falling-In-loop-j, falling-Joined-is_odd, falling-then-is_odd, falling-else-is_odd}
use Rattle.listing.proofs.+falling_rising.Goals.{rising-After-min-most, rising-In-loop-j, rising-Joined-is_odd, rising-then-is_odd, rising-else-is_odd}

-- ---- falling

-- the part that the loop goes over
falling_part : (t : ℕ) (c : falling-After-min-most t) →
    let a = c.args in
    let bound = c.from-bound.result in
    Part a.upper.now a.parts a.rest a.t a.g.now a.out.now (a.parts - 1) bound (a.room - bound) c.saturating_sub-least.result
    c.min-most.result
falling_part t c = part_begins c.requires.1 c.if-parts-eq1.false refl c.from-bound.ensures refl c.saturating_sub-least.ensures c.min-most.ensures

-- a turn of it
falling_turn_at : (t : ℕ) (c : falling-In-loop-j t) →
    let l = c.loop-j in
    let a = c.args in
    Turn a.upper.now (a.parts - 1) (a.room - c.from-bound.result) a.rest a.t a.g.now a.out.now l.j
    (c.min-most.result - l.j) l.g l.out l.at
falling_turn_at t c = let inv = c.loop-j.invariant in falling_turn inv.0 (omega arith) inv.2 inv.1 refl

-- the shorter edition has a part fewer
falling_falls : (t : ℕ) (c : falling-In-loop-j t) → c.args.parts - 1 < t
falling_falls t c = omega (arith, c.decreases, c.loop-j.invariant.0.next)

pub falling-put-requires : goal.falling-put-requires
falling-put-requires t c = single_room c.requires.1 c.if-parts-eq1.true

pub falling-returns-then-parts-eq1 : goal.falling-returns-then-parts-eq1
falling-returns-then-parts-eq1 t c = walked_single c.requires.1 c.if-parts-eq1.true c.put.ensures

pub falling-loop-j-init : goal.falling-loop-j-init
falling-loop-j-init t c = (falling_part t c, c.requires.0, turns_begin)

pub falling-slice_bounds-falling-count : goal.falling-slice_bounds-falling-count
falling-slice_bounds-falling-count t c = turn_within (falling_turn_at t (goal.at.falling-slice_bounds-falling-count t c).In-loop-j)

pub falling-slice_bounds-falling-start : goal.falling-slice_bounds-falling-start
falling-slice_bounds-falling-start t c = turn_within (falling_turn_at t (goal.at.falling-slice_bounds-falling-start t c).In-loop-j)

pub falling-falling-at-requires : goal.falling-falling-at-requires
falling-falling-at-requires t c =
    let inside = (goal.at.falling-falling-at-requires t c).In-loop-j in
    (falling_falls t inside, (sym c.is_odd.ensures ∙ c.if-is_odd.true, walk_shorter (falling_turn_at t inside)))

pub falling-slice_bounds-rising-count : goal.falling-slice_bounds-rising-count
falling-slice_bounds-rising-count t c = turn_within (falling_turn_at t (goal.at.falling-slice_bounds-rising-count t c).In-loop-j)

pub falling-slice_bounds-rising-start : goal.falling-slice_bounds-rising-start
falling-slice_bounds-rising-start t c = turn_within (falling_turn_at t (goal.at.falling-slice_bounds-rising-start t c).In-loop-j)

pub falling-rising-at-requires : goal.falling-rising-at-requires
falling-rising-at-requires t c =
    let inside = (goal.at.falling-rising-at-requires t c).In-loop-j in
    (falling_falls t inside, (sym c.is_odd.ensures ∙ c.if-is_odd.false, walk_shorter (falling_turn_at t inside)))

-- after a turn, by either call
falling_turned : (t : ℕ) (c : falling-Joined-is_odd t) →
    let a = c.args in
    Turns a.upper.now (a.parts - 1) a.rest a.t a.g.now a.out.now (suc c.loop-j.j) c.if-is_odd.g c.if-is_odd.out c.if-is_odd.at
falling_turned t c =
    let turn = falling_turn_at t (goal.at.falling-Joined-is_odd t c).In-loop-j in
    elim c.if-is_odd.branch [
      | falling-then-is_odd w ↦ rw (w.g-is, w.out-is, w.at-is) (turns_more turn w.falling-at.ensures w.falling-at.auto.g)
      | falling-else-is_odd w ↦ rw (w.g-is, w.out-is, w.at-is) (turns_more turn w.rising-at.ensures w.rising-at.auto.g)
    ]

pub falling-loop-j-preserved : goal.falling-loop-j-preserved
falling-loop-j-preserved t c =
    let inv = c.loop-j.invariant in
    (inv.0, inv.1, turns_at (falling_turned t c) (omega arith))

pub falling-returns : goal.falling-returns
falling-returns t c = let inv = c.loop-j.invariant in part_done inv.0 inv.2 (omega arith)

-- ---- rising

-- the part that the loop goes over
rising_part : (t : ℕ) (c : rising-After-min-most t) →
    let a = c.args in
    let bound = c.from-bound.result in
    Part a.upper.now a.parts a.rest a.t a.g.now a.out.now (a.parts - 1) bound (a.room - bound) c.saturating_sub-least.result
    c.min-most.result
rising_part t c = part_begins c.requires.1 c.if-parts-eq1.false refl c.from-bound.ensures refl c.saturating_sub-least.ensures c.min-most.ensures

-- a turn of it
rising_turn_at : (t : ℕ) (c : rising-In-loop-j t) →
    let l = c.loop-j in
    let a = c.args in
    Turn a.upper.now (a.parts - 1) (a.room - c.from-bound.result) a.rest a.t a.g.now a.out.now l.j
    (c.saturating_sub-least.result + l.j) l.g l.out l.at
rising_turn_at t c = let inv = c.loop-j.invariant in rising_turn inv.0 (omega arith) inv.2 inv.1 refl

-- the shorter edition has a part fewer
rising_falls : (t : ℕ) (c : rising-In-loop-j t) → c.args.parts - 1 < t
rising_falls t c = omega (arith, c.decreases, c.loop-j.invariant.0.next)

pub rising-put-requires : goal.rising-put-requires
rising-put-requires t c = single_room c.requires.1 c.if-parts-eq1.true

pub rising-returns-then-parts-eq1 : goal.rising-returns-then-parts-eq1
rising-returns-then-parts-eq1 t c = walked_single c.requires.1 c.if-parts-eq1.true c.put.ensures

pub rising-loop-j-init : goal.rising-loop-j-init
rising-loop-j-init t c = (rising_part t c, c.requires.0, turns_begin)

pub rising-slice_bounds-falling-count : goal.rising-slice_bounds-falling-count
rising-slice_bounds-falling-count t c = turn_within (rising_turn_at t (goal.at.rising-slice_bounds-falling-count t c).In-loop-j)

pub rising-slice_bounds-falling-start : goal.rising-slice_bounds-falling-start
rising-slice_bounds-falling-start t c = turn_within (rising_turn_at t (goal.at.rising-slice_bounds-falling-start t c).In-loop-j)

pub rising-falling-at-requires : goal.rising-falling-at-requires
rising-falling-at-requires t c =
    let inside = (goal.at.rising-falling-at-requires t c).In-loop-j in
    (rising_falls t inside, (sym c.is_odd.ensures ∙ c.if-is_odd.true, walk_shorter (rising_turn_at t inside)))

pub rising-slice_bounds-rising-count : goal.rising-slice_bounds-rising-count
rising-slice_bounds-rising-count t c = turn_within (rising_turn_at t (goal.at.rising-slice_bounds-rising-count t c).In-loop-j)

pub rising-slice_bounds-rising-start : goal.rising-slice_bounds-rising-start
rising-slice_bounds-rising-start t c = turn_within (rising_turn_at t (goal.at.rising-slice_bounds-rising-start t c).In-loop-j)

pub rising-rising-at-requires : goal.rising-rising-at-requires
rising-rising-at-requires t c =
    let inside = (goal.at.rising-rising-at-requires t c).In-loop-j in
    (rising_falls t inside, (sym c.is_odd.ensures ∙ c.if-is_odd.false, walk_shorter (rising_turn_at t inside)))

-- after a turn, by either call
rising_turned : (t : ℕ) (c : rising-Joined-is_odd t) →
    let a = c.args in
    Turns a.upper.now (a.parts - 1) a.rest a.t a.g.now a.out.now (suc c.loop-j.j) c.if-is_odd.g c.if-is_odd.out c.if-is_odd.at
rising_turned t c =
    let turn = rising_turn_at t (goal.at.rising-Joined-is_odd t c).In-loop-j in
    elim c.if-is_odd.branch [
      | rising-then-is_odd w ↦ rw (w.g-is, w.out-is, w.at-is) (turns_more turn w.falling-at.ensures w.falling-at.auto.g)
      | rising-else-is_odd w ↦ rw (w.g-is, w.out-is, w.at-is) (turns_more turn w.rising-at.ensures w.rising-at.auto.g)
    ]

pub rising-loop-j-preserved : goal.rising-loop-j-preserved
rising-loop-j-preserved t c =
    let inv = c.loop-j.invariant in
    (inv.0, inv.1, turns_at (rising_turned t c) (omega arith))

pub rising-returns : goal.rising-returns
rising-returns t c = let inv = c.loop-j.invariant in part_done inv.0 inv.2 (omega arith)
