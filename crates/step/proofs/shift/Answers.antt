-- `step::shift` meets its contract: the turn is made in n of 24 cells.
use Rattle.std.proofs.Common.{◌≡◌, sym, ap, ◌∙◌, length, take, arith}
use lib.Seq.{take_all}
use Rattle.walsh.specs.Transition.{transition}
use Rattle.bounds.specs.Edition.{cells_of}
use Rattle.bounds.proofs.Cells.{cells_back, cells_replaced, copied_cells}
use Rattle.step.specs.Advance.{turn_of}
use Rattle.step.proofs.Notes.{shifted_still, shifted_moved}
use Rattle.step.proofs.shift.Goals as goal
use Rattle.step.proofs.shift.Goals.{After-copy, After-turn-pair}

-- the cells hold the parts
packed : (c : After-copy) → c.copy.new.out ≡ cells_of c.args.parts.now
packed c = c.copy.ensures ∙ copied_cells _ ∙ ap cells_of (take_all 24 c.args.parts.now (omega (arith, c.requires.1, c.requires.2)))

-- and n of them are lent to the turn
lent : (c : After-copy) → let a = c.args in take (length a.upper.now) c.copy.new.out ≡ a.parts.now
lent c = let g = c.args.parts.now in ap (take (length c.args.upper.now)) (packed c) ∙ rw (← c.requires.2) (cells_back g)

size : (c : After-copy) →
    let n = length c.args.upper.now in
    length (take n c.copy.new.out) ≡ n
size c = ap length (lent c) ∙ c.requires.2

-- what the turn leaves, and what it answers
turned : (c : After-turn-pair) →
    let a = c.args in
    (c.turn-pair.new.parts ≡ turn_of a.upper.now a.total a.parts.now)
    × (c.turn-pair.result ≡ transition a.parts.now c.turn-pair.new.parts)
turned c = rw (lent (goal.at.After-turn-pair c).After-copy) at c.turn-pair.ensures

pub slice_bounds-turn-end : goal.slice_bounds-turn-end
slice_bounds-turn-end c = sym (size (goal.at.slice_bounds-turn-end c).After-copy)

pub turn-pair-requires : goal.turn-pair-requires
turn-pair-requires c = let p = c.requires in (p.0, p.1, size (goal.at.turn-pair-requires c).After-copy, p.3)

pub returns-then-pair-eq0 : goal.returns-then-pair-eq0
returns-then-pair-eq0 c =
    let t = turned (goal.at.returns-then-pair-eq0 c).After-turn-pair in
    rw (← t.0) (shifted_still _ _ t.1 c.if-pair-eq0.true)

pub returns : goal.returns
returns c =
    let h = c.turn-pair.new.parts in
    let p = (goal.at.returns c).After-copy in
    let t = turned (goal.at.returns c).After-turn-pair in
    rw (packed p, cells_replaced _ h _ c.requires.2 (c.turn-pair.auto.parts ∙ size p), ← t.0) (shifted_moved _ h t.1 c.if-pair-eq0.false)
